-- No loop: four pieces in a row, the start of JSPROP, the pointer, its quote and colon, the value as TEXT; then the line's end. `next!` carries
-- bytes and column from piece to piece, `filled` and `then` add the end, which is not folded. The value goes through the buffer: what that cuts off
-- would not fit into the room either, which is no longer (`member-line`). There is no refusal.
use native.Mathlib.Nat.{le_refl}
use Rattle.line_pen.proofs.Filling.{then}
use Rattle.line_pen.proofs.Laws.{filled, first!, next!, in!, fit! }
use Rattle.to_card_lines.proofs.Laws.{fills-length, begun, row_fits}
use Rattle.to_card_members.proofs.Values.{member-line}
use Rattle.to_card_members.proofs.put_member.Goals as goal

pub slice_bounds-pen_pointer-count : goal.slice_bounds-pen_pointer-count
slice_bounds-pen_pointer-count c = in! (first! c.pen_bytes-p.ensures)

pub slice_bounds-pen_pointer-start : goal.slice_bounds-pen_pointer-start
slice_bounds-pen_pointer-start c = in! (first! c.pen_bytes-p.ensures)

pub slice_bounds-pen_pointer-end : goal.slice_bounds-pen_pointer-end
slice_bounds-pen_pointer-end c = le_refl _

pub overflow_add-n2 : goal.overflow_add-n2
overflow_add-n2 c = fit! (next! (first! c.pen_bytes-p.ensures) c.pen_pointer-q.ensures.pens) c.well_formed.0.0

pub slice_bounds-pen_bytes-count : goal.slice_bounds-pen_bytes-count
slice_bounds-pen_bytes-count c = in! (next! (first! c.pen_bytes-p.ensures) c.pen_pointer-q.ensures.pens)

pub slice_bounds-pen_bytes-start : goal.slice_bounds-pen_bytes-start
slice_bounds-pen_bytes-start c = in! (next! (first! c.pen_bytes-p.ensures) c.pen_pointer-q.ensures.pens)

pub slice_bounds-pen_bytes-end-2 : goal.slice_bounds-pen_bytes-end-2
slice_bounds-pen_bytes-end-2 c = le_refl _

pub overflow_add-n3 : goal.overflow_add-n3
overflow_add-n3 c =
    let good = c.well_formed in
    let pen-bytes = c.pen_bytes-p in
    let pen-pointer = c.pen_pointer-q in
    let pen-bytes2 = c.pen_bytes-t in
    fit! (next! (next! (first! pen-bytes.ensures) pen-pointer.ensures.pens) pen-bytes2.ensures) good.0.0

pub put_value-m-requires : goal.put_value-m-requires
put_value-m-requires c =
    record { a_le_e = c.requires.a_le_e; e_in_bounds = c.requires.e_in_bounds }

pub overflow_add-n4 : goal.overflow_add-n4
overflow_add-n4 c =
    let good = c.well_formed in
    let pen-bytes = c.pen_bytes-p in
    let pen-pointer = c.pen_pointer-q in
    let pen-bytes2 = c.pen_bytes-t in
    let pen-text = c.pen_text-u in
    fit! (next! (next! (next! (first! pen-bytes.ensures) pen-pointer.ensures.pens) pen-bytes2.ensures) pen-text.ensures) good.0.0

pub slice_bounds-fill-count : goal.slice_bounds-fill-count
slice_bounds-fill-count c =
    let pen-bytes = c.pen_bytes-p in
    let pen-pointer = c.pen_pointer-q in
    let pen-bytes2 = c.pen_bytes-t in
    let pen-text = c.pen_text-u in
    in! (next! (next! (next! (first! pen-bytes.ensures) pen-pointer.ensures.pens) pen-bytes2.ensures) pen-text.ensures)

pub slice_bounds-fill-start : goal.slice_bounds-fill-start
slice_bounds-fill-start c =
    let pen-bytes = c.pen_bytes-p in
    let pen-pointer = c.pen_pointer-q in
    let pen-bytes2 = c.pen_bytes-t in
    let pen-text = c.pen_text-u in
    in! (next! (next! (next! (first! pen-bytes.ensures) pen-pointer.ensures.pens) pen-bytes2.ensures) pen-text.ensures)

pub slice_bounds-fill-end : goal.slice_bounds-fill-end
slice_bounds-fill-end c = le_refl _

pub overflow_add-n5 : goal.overflow_add-n5
overflow_add-n5 c =
    let good = c.well_formed in
    let pen-bytes = c.pen_bytes-p in
    let pen-pointer = c.pen_pointer-q in
    let pen-bytes2 = c.pen_bytes-t in
    let pen-text = c.pen_text-u in
    row_fits
    (begun
    (then
    (filled
    (next! (next! (next! (first! pen-bytes.ensures) pen-pointer.ensures.pens) pen-bytes2.ensures)
    pen-text.ensures).so)
    c.fill-z.ensures))
    good.0.0

pub shape_of-out : goal.shape_of-out
shape_of-out c =
    let pen-bytes = c.pen_bytes-p in
    let pen-pointer = c.pen_pointer-q in
    let pen-bytes2 = c.pen_bytes-t in
    let pen-text = c.pen_text-u in
    fills-length
    (then
    (filled
    (next! (next! (next! (first! pen-bytes.ensures) pen-pointer.ensures.pens) pen-bytes2.ensures)
    pen-text.ensures).so)
    c.fill-z.ensures)

pub returns : goal.returns
returns c =
    let args = c.args in
    let pen-bytes = c.pen_bytes-p in
    let pen-pointer = c.pen_pointer-q in
    let pen-bytes2 = c.pen_bytes-t in
    let put-value = c.put_value-m in
    let pen-text = c.pen_text-u in record {
      member_line = member-line args.s.now args.name args.a args.e args.out.now pen-pointer.ensures.text pen-pointer.ensures.is _ pen-pointer.ensures.carried _ _ _ c.requires.out_in_bounds put-value.ensures _ _ (then (filled (next! (next! (next! (first! pen-bytes.ensures) pen-pointer.ensures.pens) pen-bytes2.ensures) pen-text.ensures).so) c.fill-z.ensures);
      buffer_len_unchanged = fills-length put-value.ensures;
    }
