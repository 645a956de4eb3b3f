use Rattle.line.specs.Physical.{is_end}
use Rattle.line_frame.proofs.is_end.Goals as goal

pub returns : goal.returns
unfolding is_end
returns c = c.is_named.ensures
