use Rattle.line.specs.Physical.{is_begin}
use Rattle.line_frame.proofs.is_begin.Goals as goal

pub returns : goal.returns
unfolding is_begin
returns c = c.is_named.ensures
