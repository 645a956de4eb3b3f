use Rattle.text_words.specs.Words.{raw}
use Rattle.text_words.proofs.RawRun.one.Goals as goal

pub returns : goal.returns
unfolding raw
returns c = rw c.one.ensures
