use native.Mathlib.Omega.{arith}
use Prim.Native.Nat.{◌+◌}
use borrow.Author.Tests.{eq-eqb, ne_eqb}
use Rattle.text.specs.Bytes.{is}
use Rattle.text.specs.Reader.{one, got, bad}
use Rattle.text.proofs.Places.{by-on, not_on, here, bad-here}
use Rattle.json_marks.proofs.byte.Goals as goal

pub returns-then-look-b : goal.returns-then-look-b
unfolding one
returns-then-look-b c = by-on (is c.args.b) got bad c.look.ensures.0 (eq-eqb _ _ c.if-look-b.true) (here c.look.result (c.args.at + 1) (omega arith))

pub returns : goal.returns
unfolding one
returns c = not_on (is c.args.b) got bad c.look.ensures.0 (ne_eqb _ _ c.if-look-b.false) (bad-here c.args.at (omega arith))
