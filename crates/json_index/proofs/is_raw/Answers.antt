use mathlib.Core.Path.{refl}
use Rattle.json_index.proofs.Together.{raw-low}
use Rattle.json_index.proofs.is_raw.Goals as goal

pub returns : goal.returns
returns c = raw-low _ c.if-c-lt32.false c.if-c-gt92.false c.if-c-eq34.false refl
