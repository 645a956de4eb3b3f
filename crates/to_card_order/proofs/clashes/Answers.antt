use Rattle.to_card_order.proofs.Apart.{clash-unwanted, clash-empty, clash-is}
use Rattle.to_card_order.proofs.clashes.Goals as goal

pub returns-then-not-wanted : goal.returns-then-not-wanted
returns-then-not-wanted c = clash-unwanted c.args.s.now c.args.at c.args.wanted c.args.value c.args.kind c.if-not-wanted.true

pub returns-then-not-is_filled : goal.returns-then-not-is_filled
returns-then-not-is_filled c =
    let args = c.args in
    clash-empty args.s.now args.at args.wanted args.value args.kind c.is_filled.result c.is_filled.ensures c.if-not-is_filled.true

pub is_listed-requires : goal.is_listed-requires
is_listed-requires c = record {
  at_in_bounds = c.requires.at_in_bounds;
  in_bounds = c.requires.in_bounds;
  in_bounds_2 = c.requires.in_bounds_2;
  rows_bound = c.requires.rows_bound;
  rows_from = c.requires.rows_from;
}

pub returns : goal.returns
returns c =
    let args = c.args in
    clash-is args.s.now args.at args.wanted args.value args.kind c.is_filled.result c.is_filled.ensures c.if-not-wanted.false c.if-not-is_filled.false c.is_listed.result c.is_listed.ensures
