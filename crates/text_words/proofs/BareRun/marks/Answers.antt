use mathlib.Core.Path.{refl}
use lib.Dec.{lit<}
use Rattle.text_words.specs.Words.{word, bare, soft}
use Rattle.text_words.proofs.Lanes.{marks}
use Rattle.text_words.proofs.Classes.{fits-ne, fits_sum, bare-ex}
use Rattle.text_words.proofs.BareRun.marks.Goals as goal

pub overflow_add-quote : goal.overflow_add-quote
overflow_add-quote c = fits-ne c.args.w 0x2222222222222222 (lit< tt)

pub overflow_add-backslash : goal.overflow_add-backslash
overflow_add-backslash c = fits-ne c.args.w 0x5c5c5c5c5c5c5c5c (lit< tt)

pub overflow_add-control : goal.overflow_add-control
overflow_add-control c = fits_sum c.args.w 0x6060606060606060 (lit< tt)

pub returns : goal.returns
unfolding word bare soft
returns c = marks bare-ex bare refl c.args.w
