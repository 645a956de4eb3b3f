use Rattle.to_card_order.proofs.Noted.{notes-none, notes-more, notes-anew}
use Rattle.to_card_order.proofs.note_value.Goals as goal

pub returns-then-m-eq-NO_PRINT : goal.returns-then-m-eq-NO_PRINT
returns-then-m-eq-NO_PRINT c =
    let args = c.args in
    notes-none args.s.now args.at args.one args.wanted args.value c.value_print-m.result c.value_print-m.ensures args.places.now
    args.prints.now args.count c.requires.count_bound c.if-m-eq-NO_PRINT.true

pub returns-then-count-lt-NOTED : goal.returns-then-count-lt-NOTED
returns-then-count-lt-NOTED c =
    let args = c.args in
    let value-print = c.value_print-m in
    notes-more args.s.now args.at args.one args.wanted args.value value-print.result value-print.ensures args.places.now args.prints.now
    args.count c.if-m-eq-NO_PRINT.false c.if-count-lt-NOTED.true c.requires.in_bounds c.requires.in_bounds_2

pub returns : goal.returns
returns c =
    let args = c.args in
    let value-print = c.value_print-m in
    notes-anew args.s.now args.at args.one args.wanted args.value value-print.result value-print.ensures args.places.now args.prints.now
    args.count c.if-m-eq-NO_PRINT.false c.requires.in_bounds c.requires.in_bounds_2 c.none_met-ok.result c.none_met-ok.ensures
