use borrow.Author.Tests.{le-leb, lt-leb}
use Rattle.text.specs.Bytes.{between}
use Rattle.json_escapes.proofs.within.Goals as goal

pub returns-then-lo-v : goal.returns-then-lo-v
unfolding between
returns-then-lo-v c = rw (le-leb _ _ c.if-lo-v.true)

pub returns-else-lo-v : goal.returns-else-lo-v
unfolding between
returns-else-lo-v c = rw (lt-leb _ _ c.if-lo-v.false)
