use mathlib.Core.Path.{refl}
use Rattle.json_write.specs.Pieces.{bare}
use Rattle.json_write.proofs.is_bare.Goals as goal

pub returns : goal.returns
unfolding bare
returns c = refl
