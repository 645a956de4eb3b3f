use mathlib.Core.Path.{refl}
use Rattle.convert.specs.Answers.{is_card_number}
use Rattle.from_card_stem.proofs.is_card_number.Goals as goal

pub returns : goal.returns
unfolding is_card_number
returns c = refl
