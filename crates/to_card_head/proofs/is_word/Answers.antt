use mathlib.Core.Path.{sym, ap, ◌∙◌}
use Rattle.json_strings.specs.Decoded.{left}
use Rattle.json_strings.proofs.Laws.{left-none, decoded-past}
use Rattle.json_strings.proofs.NextByte.{byte-in, is-alone, is-end, is_one}
use Rattle.to_card_head.specs.Head.{word_of, word_from}
use Rattle.to_card_head.proofs.Words.{word_first, word_end, word-bad, word_on}
use Rattle.to_card_head.proofs.is_word.Goals as goal

pub returns-then-at-s : goal.returns-then-at-s
returns-then-at-s c = sym (ap word_of (decoded-past c.args.s.now c.args.at c.if-at-s.true))

pub loop-b-init : goal.loop-b-init
loop-b-init c = (c.if-at-s.false, word_first _ _ (left-none c.args.s.now c.args.at))

pub byte_at-requires : goal.byte_at-requires
byte_at-requires c = c.loop-b.invariant.0

pub returns-in-Alone : goal.returns-in-Alone
returns-in-Alone c = sym (c.loop-b.invariant.1 ∙ ap (word_from c.loop-b.begun) (is-alone c.args.s.now c.byte_at.ensures.0 c.in-Alone.is))

pub returns-in-End : goal.returns-in-End
returns-in-End c =
    let args = c.args in
    let loop = c.loop-b in
    word_end loop.begun ∙ sym
    (loop.invariant.1 ∙ ap (word_from loop.begun) (is-end args.s.now c.byte_at.ensures.0 c.in-End.is))

pub returns-then-not-is_lower_name : goal.returns-then-not-is_lower_name
returns-then-not-is_lower_name c =
    let args = c.args in
    let loop = c.loop-b in
    let byte_at = c.byte_at in
    word-bad loop.begun c.in-One.b (left args.s.now c.in-One.j c.in-One.g)
    (sym c.is_lower_name.ensures ∙ c.if-not-is_lower_name.true) ∙ sym
    (loop.invariant.1 ∙ ap (word_from loop.begun) (is_one args.s.now byte_at.ensures.0 c.in-One.is))

pub loop-b-smaller : goal.loop-b-smaller
loop-b-smaller c =
    let args = c.args in
    let loop = c.loop-b in
    let byte_at = c.byte_at in
    (byte-in args.s.now loop.i loop.h byte_at.ensures.1 c.in-One.is).1

pub loop-b-preserved : goal.loop-b-preserved
loop-b-preserved c =
    let args = c.args in
    let loop = c.loop-b in
    let byte_at = c.byte_at in (
      (byte-in args.s.now loop.i loop.h byte_at.ensures.1 c.in-One.is).0,
      loop.invariant.1 ∙ ap (word_from loop.begun) (is_one args.s.now byte_at.ensures.0 c.in-One.is) ∙ word_on loop.begun c.in-One.b (left args.s.now c.in-One.j c.in-One.g) (sym c.is_lower_name.ensures ∙ c.if-not-is_lower_name.false),
    )
