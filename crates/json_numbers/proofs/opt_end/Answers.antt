use native.Mathlib.Omega.{arith}
use Prim.Native.Nat.{◌+◌}
use mathlib.Core.List.{[]}
use borrow.Author.Tests.{eq-eqb, ne_eqb}
use Rattle.text.specs.Bytes.{is}
use Rattle.text.proofs.Places.{by-on, not_on, here}
use Rattle.json_text.specs.Syntax.{opt}
use Rattle.json_numbers.proofs.opt_end.Goals as goal

pub returns-then-look-b : goal.returns-then-look-b
unfolding opt
returns-then-look-b c = by-on (is c.args.b) _ _ c.look.ensures.0 (eq-eqb _ _ c.if-look-b.true) (here _ (c.args.at + 1) (omega arith))

pub returns : goal.returns
unfolding opt
returns c = not_on (is c.args.b) _ _ c.look.ensures.0 (ne_eqb _ _ c.if-look-b.false) (here [] c.args.at c.requires.at_in_bounds)
