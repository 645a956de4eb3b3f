use mathlib.Core.Path.{refl}
use lib.Dec.{lit<}
use Rattle.text_words.specs.Words.{word, plain, bare, soft}
use Rattle.text_words.proofs.Lanes.{marks}
use Rattle.text_words.proofs.Classes.{fits-ne, fits_sum, plain-ex}
use Rattle.text_words.proofs.PlainRun.marks.Goals as goal

pub overflow_add-quote : goal.overflow_add-quote
overflow_add-quote c = fits-ne c.args.w 0x2222222222222222 (lit< tt)

pub overflow_add-backslash : goal.overflow_add-backslash
overflow_add-backslash c = fits-ne c.args.w 0x5c5c5c5c5c5c5c5c (lit< tt)

pub overflow_add-comma : goal.overflow_add-comma
overflow_add-comma c = fits-ne c.args.w 0x2c2c2c2c2c2c2c2c (lit< tt)

pub overflow_add-semicolon : goal.overflow_add-semicolon
overflow_add-semicolon c = fits-ne c.args.w 0x3b3b3b3b3b3b3b3b (lit< tt)

pub overflow_add-del : goal.overflow_add-del
overflow_add-del c = fits-ne c.args.w 0x7f7f7f7f7f7f7f7f (lit< tt)

pub overflow_add-control : goal.overflow_add-control
overflow_add-control c = fits_sum c.args.w 0x6060606060606060 (lit< tt)

pub returns : goal.returns
unfolding word plain bare soft
returns c = marks plain-ex plain refl c.args.w
