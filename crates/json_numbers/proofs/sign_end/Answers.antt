use native.Mathlib.Omega.{arith}
use Prim.Native.Nat.{◌+◌}
use borrow.Author.Tests.{eq-eqb, ne_eqb}
use Rattle.text.specs.Bytes.{is}
use Rattle.text.proofs.Places.{by-on, not_on, here}
use Rattle.json_text.specs.Syntax.{sign}
use Rattle.json_numbers.proofs.sign_end.Goals as goal

pub returns-then-look-eq-PLUS : goal.returns-then-look-eq-PLUS
unfolding sign
returns-then-look-eq-PLUS c = by-on (is 43) _ _ c.look.ensures.0 (eq-eqb _ _ c.if-look-eq-PLUS.true) (here _ (c.args.at + 1) (omega arith))

pub returns : goal.returns
unfolding sign
returns c = not_on (is 43) _ _ c.look.ensures.0 (ne_eqb _ _ c.if-look-eq-PLUS.false) c.opt_end.ensures
