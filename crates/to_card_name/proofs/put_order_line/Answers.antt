use native.Mathlib.Nat.{le_refl}
use Rattle.line_pen.proofs.Filling.{then}
use Rattle.line_pen.proofs.Laws.{filled, first!, next!, in!, fit! }
use Rattle.to_card_lines.proofs.Laws.{fills-length, begun, row_fits}
use Rattle.to_card_name.proofs.put_order_line.Goals as goal

pub slice_bounds-pen_order-count : goal.slice_bounds-pen_order-count
slice_bounds-pen_order-count c = in! (first! c.pen_bytes-p.ensures)

pub slice_bounds-pen_order-start : goal.slice_bounds-pen_order-start
slice_bounds-pen_order-start c = in! (first! c.pen_bytes-p.ensures)

pub slice_bounds-pen_order-end : goal.slice_bounds-pen_order-end
slice_bounds-pen_order-end c = le_refl _

pub pen_order-q-requires : goal.pen_order-q-requires
pen_order-q-requires c = record {
  at_in_bounds = c.requires.at_in_bounds;
  part_count_in_bounds = c.requires.part_count_in_bounds;
  in_bounds = c.requires.in_bounds;
  in_bounds_2 = c.requires.in_bounds_2;
  rows_from = c.requires.rows_from;
}

pub overflow_add-n2 : goal.overflow_add-n2
overflow_add-n2 c =
    let good = c.well_formed in
    let pen-bytes = c.pen_bytes-p in
    let pen-order = c.pen_order-q in
    fit! (next! (first! pen-bytes.ensures) pen-order.ensures.pens) good.0.0

pub slice_bounds-fill-count : goal.slice_bounds-fill-count
slice_bounds-fill-count c = in! (next! (first! c.pen_bytes-p.ensures) c.pen_order-q.ensures.pens)

pub slice_bounds-fill-start : goal.slice_bounds-fill-start
slice_bounds-fill-start c = in! (next! (first! c.pen_bytes-p.ensures) c.pen_order-q.ensures.pens)

pub slice_bounds-fill-end : goal.slice_bounds-fill-end
slice_bounds-fill-end c = le_refl _

pub overflow_add-n3 : goal.overflow_add-n3
overflow_add-n3 c =
    let good = c.well_formed in
    let pen-bytes = c.pen_bytes-p in
    let pen-order = c.pen_order-q in
    row_fits (begun (then (filled (next! (first! pen-bytes.ensures) pen-order.ensures.pens).so) c.fill-z.ensures))
    good.0.0

pub shape_of-out : goal.shape_of-out
shape_of-out c =
    let pen-bytes = c.pen_bytes-p in
    let pen-order = c.pen_order-q in
    fills-length (then (filled (next! (first! pen-bytes.ensures) pen-order.ensures.pens).so) c.fill-z.ensures)

pub returns : goal.returns
returns c =
    let pen-bytes = c.pen_bytes-p in
    let pen-order = c.pen_order-q in
    record {
      text = pen-order.ensures.text;
      fills = then (filled (next! (first! pen-bytes.ensures) pen-order.ensures.pens).so)
          c.fill-z.ensures;
      says = pen-order.ensures.says;
    }
