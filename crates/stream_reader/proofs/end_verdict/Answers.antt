use Rattle.stream_reader.specs.Machine.{end_verdict_of}
use Rattle.stream_reader.proofs.end_verdict.Goals as goal

pub returns-then-is_end : goal.returns-then-is_end
unfolding end_verdict_of
returns-then-is_end c = rw (c.if-inside.true, ← c.is_end.ensures, c.if-is_end.true)

pub returns-then-inside : goal.returns-then-inside
unfolding end_verdict_of
returns-then-inside c = rw (c.if-inside.true, ← c.is_end.ensures, c.if-is_end.false)

pub returns-in-Empty : goal.returns-in-Empty
unfolding end_verdict_of
returns-in-Empty c = rw (c.if-inside.false, c.in-Empty.is)

pub returns-in-Begin : goal.returns-in-Begin
unfolding end_verdict_of
returns-in-Begin c = rw (c.if-inside.false, c.in-Begin.is)

pub returns-in-End : goal.returns-in-End
unfolding end_verdict_of
returns-in-End c = rw (c.if-inside.false, c.in-End.is)

pub returns-in-Other : goal.returns-in-Other
unfolding end_verdict_of
returns-in-Other c = rw (c.if-inside.false, c.in-Other.is)
