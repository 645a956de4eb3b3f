use mathlib.Core.Path.{◌∙◌}
use Rattle.stream_reader.specs.Machine.{opened_of}
use Rattle.stream_reader.proofs.State.opened.Goals as goal

pub returns : goal.returns
unfolding opened_of
returns c = c.start.ensures ∙ rw (c.bump.ensures, c.bump-2.ensures)
