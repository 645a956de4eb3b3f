use Rattle.text_words.specs.Words.{bare}
use Rattle.text_words.proofs.BareRun.one.Goals as goal

pub returns : goal.returns
unfolding bare
returns c = rw c.one.ensures
