use Rattle.stream_reader.specs.Machine.{event_of}
use Rattle.stream_reader.proofs.told.Goals as goal

pub returns-in-More : goal.returns-in-More
unfolding event_of
returns-in-More c = rw c.in-More.is

pub returns-in-Outside : goal.returns-in-Outside
unfolding event_of
returns-in-Outside c = rw c.in-Outside.is

pub returns-in-Endless : goal.returns-in-Endless
unfolding event_of
returns-in-Endless c = rw c.in-Endless.is

pub returns-in-Whole : goal.returns-in-Whole
unfolding event_of
returns-in-Whole c = rw c.in-Whole.is c.closed.ensures
