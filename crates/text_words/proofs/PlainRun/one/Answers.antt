use Rattle.text_words.specs.Words.{plain}
use Rattle.text_words.proofs.PlainRun.one.Goals as goal

pub returns : goal.returns
unfolding plain
returns c = rw c.one.ensures
