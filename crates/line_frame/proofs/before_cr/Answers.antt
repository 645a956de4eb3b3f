use borrow.Author.Tests.{eq-eqb, ne_eqb, le-leb, lt-leb}
use Rattle.line_frame.specs.Lines.{cr_end}
use Rattle.line_frame.proofs.before_cr.Goals as goal

pub returns-then-lf-at : goal.returns-then-lf-at
unfolding cr_end
returns-then-lf-at c = rw (le-leb _ _ c.if-lf-at.true)

pub returns-then-s-last-eq13 : goal.returns-then-s-last-eq13
unfolding cr_end
returns-then-s-last-eq13 c = rw (lt-leb _ _ c.if-lf-at.false, eq-eqb _ _ c.if-s-last-eq13.true)

pub returns : goal.returns
unfolding cr_end
returns c = rw (lt-leb _ _ c.if-lf-at.false, ne_eqb _ _ c.if-s-last-eq13.false)
