use mathlib.Core.Path.{refl}
use lib.Dec.{lit<}
use Rattle.text_words.specs.Words.{word, no_lf}
use Rattle.text_words.proofs.Lanes.{marks}
use Rattle.text_words.proofs.Classes.{fits-ne, line-ex}
use Rattle.text_words.proofs.LineRun.marks.Goals as goal

pub overflow_add-lf : goal.overflow_add-lf
overflow_add-lf c = fits-ne c.args.w 0x0a0a0a0a0a0a0a0a (lit< tt)

pub returns : goal.returns
unfolding word no_lf
returns c = marks line-ex no_lf refl c.args.w
