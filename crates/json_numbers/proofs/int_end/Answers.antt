use native.Mathlib.Omega.{arith}
use Prim.Native.Nat.{◌+◌}
use borrow.Author.Tests.{eq-eqb, ne_eqb}
use Rattle.text.specs.Bytes.{is}
use Rattle.text.proofs.Places.{by-on, not_on, here}
use Rattle.json_text.specs.Syntax.{int}
use Rattle.json_numbers.proofs.int_end.Goals as goal

pub returns-then-look-eq-ZERO : goal.returns-then-look-eq-ZERO
unfolding int
returns-then-look-eq-ZERO c = by-on (is 48) _ _ c.look.ensures.0 (eq-eqb _ _ c.if-look-eq-ZERO.true) (here _ (c.args.at + 1) (omega arith))

pub returns : goal.returns
unfolding int
returns c = not_on (is 48) _ _ c.look.ensures.0 (ne_eqb _ _ c.if-look-eq-ZERO.false) c.digits_end.ensures
