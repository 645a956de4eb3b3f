use Rattle.to_card_order.proofs.Noted.{meets-none, meets-as}
use Rattle.to_card_order.proofs.is_met.Goals as goal

pub returns-then-m-eq-NO_PRINT : goal.returns-then-m-eq-NO_PRINT
returns-then-m-eq-NO_PRINT c =
    let args = c.args in
    meets-none args.s.now args.wanted args.value c.value_print-m.result c.value_print-m.ensures args.places.now args.prints.now
    args.count c.if-m-eq-NO_PRINT.true

pub is_noted_wide-requires : goal.is_noted_wide-requires
is_noted_wide-requires c = record {
  count_in_bounds = c.requires.count_in_bounds;
  count_in_bounds_2 = c.requires.count_in_bounds_2;
  p_value = c.value_print-m.ensures.print-is c.if-m-eq-NO_PRINT.false;
}

pub returns : goal.returns
returns c =
    let args = c.args in
    let value-print = c.value_print-m in
    meets-as args.s.now args.wanted args.value value-print.result value-print.ensures args.places.now args.prints.now args.count
    c.if-m-eq-NO_PRINT.false c.is_noted_wide.result c.is_noted_wide.ensures
