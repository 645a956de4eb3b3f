use mathlib.Core.Path.{refl}
use Rattle.stream_reader.specs.Machine.{in_range}
use Rattle.stream_reader.proofs.State.in_range.Goals as goal

pub returns : goal.returns
unfolding in_range
returns c = refl
