use Rattle.to_card_order.proofs.Noted.{prints-unwanted, prints-empty, prints-one}
use Rattle.to_card_order.proofs.value_print.Goals as goal

pub returns-then-not-wanted : goal.returns-then-not-wanted
returns-then-not-wanted c = prints-unwanted c.args.s.now c.args.wanted c.args.value c.if-not-wanted.true

pub returns-then-not-is_filled : goal.returns-then-not-is_filled
returns-then-not-is_filled c =
    let args = c.args in
    prints-empty args.s.now args.wanted args.value c.is_filled.result c.is_filled.ensures c.if-not-is_filled.true

pub returns : goal.returns
returns c =
    let args = c.args in
    prints-one args.s.now args.wanted args.value c.is_filled.result c.is_filled.ensures
    c.if-not-wanted.false c.if-not-is_filled.false c.print_at.result c.print_at.ensures.value c.print_at.ensures.upper_bound
