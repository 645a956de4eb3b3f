use borrow.Author.Tests.{eq-eqb, ne_eqb}
use Rattle.json_skip.specs.Skip.{opens}
use Rattle.json_skip.proofs.is_opening.Goals as goal

pub returns-then-b-eq91 : goal.returns-then-b-eq91
unfolding opens
returns-then-b-eq91 c = simp (eq-eqb _ _ c.if-b-eq91.true)

pub returns : goal.returns
unfolding opens
returns c = rw (ne_eqb _ _ c.if-b-eq91.false)
