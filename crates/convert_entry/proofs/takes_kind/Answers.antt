use mathlib.Core.Path.{refl}
use Rattle.convert_entry.specs.Rows.{takes}
use Rattle.convert_entry.proofs.takes_kind.Goals as goal

pub returns : goal.returns
unfolding takes
returns c = refl
