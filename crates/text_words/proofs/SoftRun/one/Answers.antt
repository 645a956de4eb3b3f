use mathlib.Core.Path.{refl}
use Rattle.text_words.specs.Words.{soft}
use Rattle.text_words.proofs.SoftRun.one.Goals as goal

pub returns : goal.returns
unfolding soft
returns c = refl
