use mathlib.Core.Path.{ap}
use Rattle.text.specs.Reader.{one}
use Rattle.text.proofs.Places.{same-as, up}
use Rattle.json_text.specs.Syntax.{token}
use Rattle.json_marks.proofs.Laws.{skip-to}
use Rattle.json_marks.proofs.mark.Goals as goal

pub returns : goal.returns
unfolding token
returns c = same-as (ap (one c.args.b) (skip-to c.skip_space.ensures)) (up c.skip_space.ensures.from c.byte.ensures)
