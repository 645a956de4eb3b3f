use mathlib.Core.Path.{refl}
use Rattle.line_class.specs.Classes.{has_bit}
use Rattle.line_class.proofs.marked.Goals as goal

pub returns : goal.returns
unfolding has_bit
returns c = refl
