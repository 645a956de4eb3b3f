use Rattle.stream_reader.specs.Machine.{verdict_of}
use Rattle.stream_reader.proofs.verdict.Goals as goal

pub returns-in-Begin : goal.returns-in-Begin
unfolding verdict_of
returns-in-Begin c = rw (c.if-inside.true, c.in-Begin.is)

pub returns-in-End : goal.returns-in-End
unfolding verdict_of
returns-in-End c = rw (c.if-inside.true, c.in-End.is)

pub returns-in-Empty : goal.returns-in-Empty
unfolding verdict_of
returns-in-Empty c = rw (c.if-inside.true, c.in-Empty.is)

pub returns-in-Other : goal.returns-in-Other
unfolding verdict_of
returns-in-Other c = rw (c.if-inside.true, c.in-Other.is)

pub returns-in-Empty-line : goal.returns-in-Empty-line
unfolding verdict_of
returns-in-Empty-line c = rw (c.if-inside.false, c.in-Empty-line.is)

pub returns-in-Begin-line : goal.returns-in-Begin-line
unfolding verdict_of
returns-in-Begin-line c = rw (c.if-inside.false, c.in-Begin-line.is)

pub returns-in-End-line : goal.returns-in-End-line
unfolding verdict_of
returns-in-End-line c = rw (c.if-inside.false, c.in-End-line.is)

pub returns-in-Other-line : goal.returns-in-Other-line
unfolding verdict_of
returns-in-Other-line c = rw (c.if-inside.false, c.in-Other-line.is)
