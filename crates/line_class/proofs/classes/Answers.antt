use mathlib.Core.Path.{refl}
use Rattle.line_class.specs.Classes.{has_bit, bit_right, entry_right}
use Rattle.line.proofs.Opened.{line-opened}
use Rattle.line_class.proofs.classes.Goals as goal

pub returns : goal.returns
unfolding has_bit bit_right entry_right line-opened
returns c = record { sized = refl; right = tt }
