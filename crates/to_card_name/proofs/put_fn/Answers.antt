use Rattle.to_card_lines.proofs.Laws.{fills-length}
use Rattle.to_card_name.proofs.Rows.{fn-full, fn-derived}
use Rattle.to_card_name.proofs.put_fn.Goals as goal

pub shape_of-out-then-full-ne0 : goal.shape_of-out-then-full-ne0
shape_of-out-then-full-ne0 c = fills-length c.put_string_line.ensures.fills

pub returns-then-full-ne0 : goal.returns-then-full-ne0
returns-then-full-ne0 c =
    let args = c.args in
    let if1 = c.if-full-ne0 in
    let put-string-line = c.put_string_line in
    fn-full args.s.now args.full args.at args.marks.now args.out.now if1.true put-string-line.result _
    put-string-line.ensures

pub put_order_line-p-requires : goal.put_order_line-p-requires
put_order_line-p-requires c = record {
  at_in_bounds = c.requires.at_in_bounds;
  part_count_in_bounds = c.requires.part_count_in_bounds;
  in_bounds = c.requires.in_bounds;
  in_bounds_2 = c.requires.in_bounds_2;
  rows_from = c.requires.rows_from;
}

pub shape_of-out : goal.shape_of-out
shape_of-out c = fills-length c.put_order_line-p.ensures.fills

pub returns : goal.returns
returns c =
    let args = c.args in
    let if1 = c.if-full-ne0 in
    let put-order-line = c.put_order_line-p in
    fn-derived args.s.now args.full args.at args.marks.now args.out.now if1.false put-order-line.result _
    put-order-line.ensures
