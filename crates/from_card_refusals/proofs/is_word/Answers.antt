use mathlib.Core.Path.{sym, ◌∙◌}
use Rattle.from_card_refusals.proofs.Lines.{no_word, word-all}
use Rattle.from_card_refusals.proofs.is_word.Goals as goal

pub returns-then-v-eq0 : goal.returns-then-v-eq0
returns-then-v-eq0 c = sym (no_word c.args.v.now c.if-v-eq0.true)

pub returns : goal.returns
returns c = c.all_of.ensures ∙ sym (word-all c.args.v.now c.if-v-eq0.false)
