use mathlib.Core.Path.{refl}
use Rattle.line.specs.Class.{is_control}
use Rattle.line_class.proofs.is_control.Goals as goal

pub returns : goal.returns
unfolding is_control
returns c = refl
