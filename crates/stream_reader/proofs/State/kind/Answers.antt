use Rattle.stream_reader.specs.Machine.{kind_of}
use Rattle.stream_reader.proofs.State.kind.Goals as goal

pub returns-then-self : goal.returns-then-self
unfolding kind_of
returns-then-self c = cc

pub returns-then-self-2 : goal.returns-then-self-2
unfolding kind_of
returns-then-self-2 c = rw (c.if-self.false, c.if-self-2.true)

pub returns-then-self-3 : goal.returns-then-self-3
unfolding kind_of
returns-then-self-3 c = rw (c.if-self.false, c.if-self-2.false, c.if-self-3.true)

pub returns : goal.returns
unfolding kind_of
returns c = rw (c.if-self.false, c.if-self-2.false, c.if-self-3.false)
