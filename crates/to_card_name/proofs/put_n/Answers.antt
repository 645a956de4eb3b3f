use native.Mathlib.Omega.{arith}
use Rattle.to_card_lines.proofs.Laws.{fills-length}
use Rattle.to_card_name.proofs.Rows.{n-none, n-line}
use Rattle.to_card_name.proofs.put_n.Goals as goal

pub has_parts-requires : goal.has_parts-requires
has_parts-requires c = c.requires.part_count_in_bounds

pub returns-then-not-has_parts : goal.returns-then-not-has_parts
returns-then-not-has_parts c =
    let args = c.args in
    let has_parts = c.has_parts in
    n-none args.s.now args.at args.marks.now args.out.now has_parts.result has_parts.ensures c.if-not-has_parts.true

pub put_order_line-p-requires : goal.put_order_line-p-requires
put_order_line-p-requires c = record {
  at_in_bounds = c.requires.at_in_bounds;
  part_count_in_bounds = c.requires.part_count_in_bounds;
  in_bounds = c.requires.in_bounds;
  in_bounds_2 = c.requires.in_bounds_2;
  rows_from = c.requires.rows_from;
}

pub apart_in-a-requires : goal.apart_in-a-requires
apart_in-a-requires c =
    record {
      at_in_bounds = c.requires.at_in_bounds;
      part_count_in_bounds = c.requires.part_count_in_bounds;
      in_bounds = c.requires.in_bounds;
      in_bounds_2 = c.requires.in_bounds_2;
      rows_from = c.requires.rows_from;
      one_lt_part_count = omega arith;
      other_lt_part_count = omega arith;
    }

pub apart_in-b-requires : goal.apart_in-b-requires
apart_in-b-requires c =
    record {
      at_in_bounds = c.requires.at_in_bounds;
      part_count_in_bounds = c.requires.part_count_in_bounds;
      in_bounds = c.requires.in_bounds;
      in_bounds_2 = c.requires.in_bounds_2;
      rows_from = c.requires.rows_from;
      one_lt_part_count = omega arith;
      other_lt_part_count = omega arith;
    }

pub shape_of-out : goal.shape_of-out
shape_of-out c = fills-length c.put_order_line-p.ensures.fills

pub returns : goal.returns
returns c =
    let args = c.args in
    let has_parts = c.has_parts in
    let put-order-line = c.put_order_line-p in
    let Apart-in = c.apart_in-a in
    n-line args.s.now args.at args.marks.now args.out.now has_parts.result has_parts.ensures c.if-not-has_parts.false
    put-order-line.result _ put-order-line.ensures Apart-in.result c.apart_in-b.result Apart-in.ensures c.apart_in-b.ensures
