use mathlib.Core.Path.{◌≡◌}
use mathlib.Core.Bool.{true, false, ◌||◌}
use Prim.Native.Nat.{ℕ}
use lib.Dec.{eqb}
use Rattle.text.specs.Bytes.{is_digit, is_letter, between}
use Rattle.line.specs.Class.{is_name}
use Rattle.line_class.proofs.is_name.Goals as goal

of-letter : (b : ℕ) → is_letter b ≡ true → true ≡ is_name b
unfolding is_name
of-letter b e = rw e

of_other : (b : ℕ) → is_letter b ≡ false → (is_digit b || eqb b 45) ≡ is_name b
unfolding is_name
of_other b e = rw e

pub returns-then-b : goal.returns-then-b
unfolding between
returns-then-b c = of-letter c.args.b c.if-b.true

pub returns : goal.returns
unfolding between
returns c = of_other c.args.b c.if-b.false
