use Rattle.to_card_value.proofs.Pieces.{blank_none, blank-end, blank-one}
use Rattle.json_strings.proofs.NextByte.{is-alone, is-end, is_one}
use Rattle.json_strings.proofs.Laws.{left-none, decoded-past}
use Rattle.json_strings.specs.Decoded.{left}
use mathlib.Core.Path.{sym, ◌∙◌}
use Rattle.to_card_value.proofs.is_blank.Goals as goal

pub returns-then-at-s : goal.returns-then-at-s
returns-then-at-s c = blank_none _ (decoded-past c.args.s.now c.args.at c.if-at-s.true)

pub returns-in-Alone : goal.returns-in-Alone
returns-in-Alone c = blank_none _ (sym (left-none c.args.s.now c.args.at) ∙ is-alone c.args.s.now c.byte_at.ensures.0 c.in-Alone.is)

pub returns-in-End : goal.returns-in-End
returns-in-End c = blank-end _ (sym (left-none c.args.s.now c.args.at) ∙ is-end c.args.s.now c.byte_at.ensures.0 c.in-End.is)

pub returns-in-One : goal.returns-in-One
returns-in-One c =
    let args = c.args in
    let byte_at = c.byte_at in
    blank-one _ (left args.s.now c.in-One.j c.in-One.g) c.in-One.b
    (sym (left-none args.s.now args.at) ∙ is_one args.s.now byte_at.ensures.0 c.in-One.is)
