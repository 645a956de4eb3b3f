use Rattle.to_card_kept_entry.proofs.strings.Putting.{word_none, word_some}
use Rattle.to_card_kept_entry.proofs.strings.is_word.Goals as goal

pub returns-then-w-eq0 : goal.returns-then-w-eq0
returns-then-w-eq0 c = word_none c.args.w.now c.if-w-eq0.true

pub returns : goal.returns
returns c = word_some c.args.w.now c.all_of.result c.if-w-eq0.false c.all_of.ensures
