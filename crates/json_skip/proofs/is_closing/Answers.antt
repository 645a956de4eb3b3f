use borrow.Author.Tests.{eq-eqb, ne_eqb}
use Rattle.json_skip.specs.Skip.{shuts}
use Rattle.json_skip.proofs.is_closing.Goals as goal

pub returns-then-b-eq93 : goal.returns-then-b-eq93
unfolding shuts
returns-then-b-eq93 c = simp (eq-eqb _ _ c.if-b-eq93.true)

pub returns : goal.returns
unfolding shuts
returns c = rw (ne_eqb _ _ c.if-b-eq93.false)
