use Rattle.stream_reader.specs.Machine.{along_of}
use Rattle.stream_reader.proofs.State.along.Goals as goal

pub returns : goal.returns
unfolding along_of
returns c = rw (c.bumps-len.ensures, c.bumps-col.ensures, c.agrees-begins.ensures, c.agrees-ends.ensures, c.agrees-blank.ensures)
