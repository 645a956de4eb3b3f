use native.Mathlib.Omega.{arith}
use native.Mathlib.Nat.{le_refl}
use Prim.Native.Nat.{◌-◌}
use Rattle.line_pen.proofs.Laws.{pens-in, pens-length, pens-then}
use Rattle.to_card_order.proofs.Places.{ordering-first, ordering-on, ordering-end}
use Rattle.to_card_order.proofs.pen_order.Goals as goal

pub loop-place-init : goal.loop-place-init
loop-place-init c =
    let args = c.args in
    (omega arith, ordering-first args.s.now args.at args.marks.now args.style args.mark args.order.now args.out.now args.column)

pub slice_bounds-pen_place-count : goal.slice_bounds-pen_place-count
slice_bounds-pen_place-count c = omega (arith, pens-in c.loop-place.invariant.1.pens, pens-length c.loop-place.invariant.1.pens)

pub slice_bounds-pen_place-start : goal.slice_bounds-pen_place-start
slice_bounds-pen_place-start c = omega (arith, pens-in c.loop-place.invariant.1.pens, pens-length c.loop-place.invariant.1.pens)

pub slice_bounds-pen_place-end : goal.slice_bounds-pen_place-end
slice_bounds-pen_place-end c = le_refl _

pub pen_place-t-requires : goal.pen_place-t-requires
pen_place-t-requires c = record {
  at_in_bounds = c.requires.at_in_bounds;
  part_count_in_bounds = c.requires.part_count_in_bounds;
  in_bounds = c.requires.in_bounds;
  in_bounds_2 = c.requires.in_bounds_2;
  rows_from = c.requires.rows_from;
}

pub overflow_add-n : goal.overflow_add-n
overflow_add-n c = record { fits = omega (arith, pens-in (pens-then c.loop-place.invariant.1.pens c.pen_place-t.ensures.pens), c.well_formed.0.0) }

pub loop-place-preserved : goal.loop-place-preserved
loop-place-preserved c =
    let loop-test = c.loop-place-test in
    let args = c.args in
    let loop = c.loop-place in
    let pen-place = c.pen_place-t in
    (omega (arith, loop-test.true), ordering-on args.s.now args.at args.marks.now args.style args.mark args.order.now args.out.now args.column loop.n loop.c loop.b loop.ok loop.place-index loop.out loop.invariant.1 loop-test.true pen-place.result _ pen-place.ensures)

pub shape_of-out : goal.shape_of-out
shape_of-out c = pens-length c.loop-place.invariant.1.pens

pub returns : goal.returns
returns c =
    let args = c.args in
    let loop = c.loop-place in
    ordering-end args.s.now args.at args.marks.now args.style args.mark args.order.now args.out.now args.column loop.n loop.c loop.b loop.ok loop.place-index loop.out loop.invariant.1 c.loop-place-test.false
