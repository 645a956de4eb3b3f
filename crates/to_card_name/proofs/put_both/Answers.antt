use native.Mathlib.Nat.{le_refl}
use native.Mathlib.Omega.{arith}
use Rattle.to_card_lines.proofs.Laws.{fills-in, fills-length, begun, onto, row_in, row_fits, row-length}
use Rattle.to_card_name.proofs.Rows.{both-row, both-lines}
use Rattle.to_card_name.proofs.put_both.Goals as goal

pub put_fn-p-requires : goal.put_fn-p-requires
put_fn-p-requires c = record {
  at_in_bounds = c.requires.at_in_bounds;
  part_count_in_bounds = c.requires.part_count_in_bounds;
  in_bounds = c.requires.in_bounds;
  in_bounds_2 = c.requires.in_bounds_2;
  rows_from = c.requires.rows_from;
}

pub slice_bounds-put_n-count : goal.slice_bounds-put_n-count
slice_bounds-put_n-count c = row_in (begun c.put_fn-p.ensures.fills)

pub slice_bounds-put_n-start : goal.slice_bounds-put_n-start
slice_bounds-put_n-start c = row_in (begun c.put_fn-p.ensures.fills)

pub slice_bounds-put_n-end : goal.slice_bounds-put_n-end
slice_bounds-put_n-end c = le_refl _

pub put_n-t-requires : goal.put_n-t-requires
put_n-t-requires c = record {
  at_in_bounds = c.requires.at_in_bounds;
  part_count_in_bounds = c.requires.part_count_in_bounds;
  in_bounds = c.requires.in_bounds;
  in_bounds_2 = c.requires.in_bounds_2;
  rows_from = c.requires.rows_from;
}

pub overflow_add-m : goal.overflow_add-m
overflow_add-m c =
    let good = c.well_formed in
    let put-fn = c.put_fn-p in
    let put-n = c.put_n-t in
    row_fits (onto (begun put-fn.ensures.fills) put-n.ensures.fills) good.0.0

pub overflow_add-k : goal.overflow_add-k
overflow_add-k c = omega (arith, c.put_n-t.ensures.few)

pub shape_of-out : goal.shape_of-out
shape_of-out c =
    let put-fn = c.put_fn-p in
    let put-n = c.put_n-t in
    row-length (onto (begun put-fn.ensures.fills) put-n.ensures.fills)

pub returns : goal.returns
returns c =
    let args = c.args in
    let put-fn = c.put_fn-p in
    let put-n = c.put_n-t in
    let row = both-row args.s.now args.full args.out.now args.at args.marks.now put-fn.result _ put-fn.ensures put-n.result _ put-n.ensures in record {
      lines_in = fills-in row;
      out_len_unchanged = fills-length row;
      puts_both = both-lines args.s.now args.full args.out.now args.at args.marks.now put-fn.result _ put-fn.ensures put-n.result _ put-n.ensures;
    }
