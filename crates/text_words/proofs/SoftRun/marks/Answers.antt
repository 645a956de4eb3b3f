use mathlib.Core.Path.{refl}
use lib.Dec.{lit<}
use Rattle.text_words.specs.Words.{word, soft}
use Rattle.text_words.proofs.Lanes.{marks}
use Rattle.text_words.proofs.Classes.{fits-ne, soft-ex}
use Rattle.text_words.proofs.SoftRun.marks.Goals as goal

pub overflow_add-quote : goal.overflow_add-quote
overflow_add-quote c = fits-ne c.args.w 0x2222222222222222 (lit< tt)

pub overflow_add-backslash : goal.overflow_add-backslash
overflow_add-backslash c = fits-ne c.args.w 0x5c5c5c5c5c5c5c5c (lit< tt)

pub returns : goal.returns
unfolding word soft
returns c = marks soft-ex soft refl c.args.w
