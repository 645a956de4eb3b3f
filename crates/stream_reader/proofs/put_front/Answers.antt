use borrow.Author.Tests.{le-leb, lt-leb}
use Rattle.stream_reader.specs.Machine.{front_of}
use Rattle.stream_reader.proofs.put_front.Goals as goal

pub returns-then-col-ge-FAR : goal.returns-then-col-ge-FAR
unfolding front_of
returns-then-col-ge-FAR c = simp (le-leb _ _ c.if-col-ge-FAR.true) c.copy_in.ensures

pub returns : goal.returns
unfolding front_of
returns c = simp (lt-leb _ _ c.if-col-ge-FAR.false) c.copy_in-2.ensures
