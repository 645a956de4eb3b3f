use mathlib.Core.List.{[]}
use borrow.Author.Tests.{eq-eqb, ne_eqb}
use Rattle.text.specs.Bytes.{is}
use Rattle.text.proofs.Places.{by-on, not_on, by-under, here}
use Rattle.json_text.specs.Syntax.{frac}
use Rattle.json_numbers.proofs.frac_end.Goals as goal

pub returns-then-look-eq-DOT : goal.returns-then-look-eq-DOT
unfolding frac
returns-then-look-eq-DOT c = by-on (is 46) _ _ c.look.ensures.0 (eq-eqb _ _ c.if-look-eq-DOT.true) (by-under _ c.digits_end.ensures)

pub returns : goal.returns
unfolding frac
returns c = not_on (is 46) _ _ c.look.ensures.0 (ne_eqb _ _ c.if-look-eq-DOT.false) (here [] c.args.at c.requires)
