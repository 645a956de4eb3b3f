use mathlib.Core.Path.{refl}
use Rattle.text_words.specs.Words.{no_lf}
use Rattle.text_words.proofs.LineRun.one.Goals as goal

pub returns : goal.returns
unfolding no_lf
returns c = refl
