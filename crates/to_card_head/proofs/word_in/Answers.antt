use mathlib.Core.Path.{ap, ◌∙◌}
use Rattle.convert.specs.FromJson.{is_lower_word}
use Rattle.to_card_head.specs.Head.{word_of}
use Rattle.to_card_head.proofs.Slots.{test-none, test-fails, test-holds}
use Rattle.to_card_head.proofs.word_in.Goals as goal

pub returns-then-q-eq0 : goal.returns-then-q-eq0
returns-then-q-eq0 c = λ v w. test-none is_lower_word c.args.s.now c.args.slot c.string_in-q.result c.string_in-q.ensures 15 v w c.if-q-eq0.true

pub returns-then-not-is_word : goal.returns-then-not-is_word
returns-then-not-is_word c =
    let args = c.args in
    let string-in = c.string_in-q in
    let is_word = c.is_word in
    λ v w. test-fails is_lower_word args.s.now args.slot string-in.result string-in.ensures 15 v w c.if-q-eq0.false
    is_word.result (λ x e. is_word.ensures ∙ ap word_of e) c.if-not-is_word.true

pub returns : goal.returns
returns c =
    let args = c.args in
    let string-in = c.string_in-q in
    let is_word = c.is_word in
    λ v w. test-holds is_lower_word args.s.now args.slot string-in.result string-in.ensures 15 v w c.if-q-eq0.false
    is_word.result (λ x e. is_word.ensures ∙ ap word_of e) c.if-not-is_word.false
