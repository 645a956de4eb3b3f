use borrow.Author.Tests.{le-leb, lt-leb}
use Rattle.text.specs.Bytes.{between}
use Rattle.text.proofs.in_range.Goals as goal

pub returns-then-lo-b : goal.returns-then-lo-b
unfolding between
returns-then-lo-b c = rw (le-leb _ _ c.if-lo-b.true)

pub returns-else-lo-b : goal.returns-else-lo-b
unfolding between
returns-else-lo-b c = rw (lt-leb _ _ c.if-lo-b.false)
