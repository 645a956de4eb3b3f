use native.Mathlib.Omega.{arith}
use native.Mathlib.Nat.{le_refl}
use Prim.Native.Nat.{◌-◌}
use Rattle.text.proofs.Places.{turn-as}
use Rattle.line_pen.proofs.Laws.{pens-in, pens-length, pens-then}
use Rattle.to_card_parts.proofs.Passes.{ended-found, ended-in, inking-first, inks-wrong, inking-on, inks-all}
use Rattle.to_card_parts.proofs.pen_kind.Goals as goal

pub loop-part-init : goal.loop-part-init
loop-part-init c =
    let pre = c.requires in
    let args = c.args in
    (pre, inking-first args.s.now args.at args.style args.mark args.kind args.begun args.out.now args.column)

pub component_to_end-requires : goal.component_to_end-requires
component_to_end-requires c = c.loop-part.invariant.0

pub shape_of-out-in_default : goal.shape_of-out-in_default
shape_of-out-in_default c = pens-length c.loop-part.invariant.1.pens

pub returns-in_default : goal.returns-in_default
returns-in_default c =
    let args = c.args in
    let l = c.loop-part in
    inks-wrong args.s.now args.at args.style args.mark args.kind args.begun args.out.now args.column l.i l.n l.c l.b l.ok l.out l.invariant.1 _
    c.component_to_end.ensures.tells_component (ended-found c.in_default.is)

pub slice_bounds-pen_value-count : goal.slice_bounds-pen_value-count
slice_bounds-pen_value-count c = let f = c.loop-part.invariant.1.pens in omega (arith, pens-in f, pens-length f)

pub slice_bounds-pen_value-start : goal.slice_bounds-pen_value-start
slice_bounds-pen_value-start c = let f = c.loop-part.invariant.1.pens in omega (arith, pens-in f, pens-length f)

pub slice_bounds-pen_value-end : goal.slice_bounds-pen_value-end
slice_bounds-pen_value-end c = le_refl _

pub overflow_add-n : goal.overflow_add-n
overflow_add-n c =
    let loop = c.loop-part in
    let pen-value = c.pen_value-t in
    let good = c.well_formed in
    record { fits = omega (arith, pens-in (pens-then loop.invariant.1.pens pen-value.ensures.pens), good.0.0) }

pub separator-requires : goal.separator-requires
separator-requires c =
    let args = c.args in
    let loop = c.loop-part in
    record { at_in_bounds = (ended-in args.s.now loop.i c.component_to_end.ensures.end_in c.in-Ok.is).within; close_bound = omega arith }

pub loop-part-smaller : goal.loop-part-smaller
loop-part-smaller c =
    let separator = c.separator in
    let args = c.args in
    let loop = c.loop-part in
    let h = turn-as separator.ensures c.in-Continue.is in
    omega (arith, h.within.0, h.within.1, (ended-in args.s.now loop.i c.component_to_end.ensures.end_in c.in-Ok.is).from)

pub loop-part-preserved : goal.loop-part-preserved
loop-part-preserved c =
    let separator = c.separator in
    let args = c.args in
    let pen-value = c.pen_value-t in
    let l = c.loop-part in
    let h = turn-as separator.ensures c.in-Continue.is in (
      h.within.1,
      inking-on args.s.now args.at args.style args.mark args.kind args.begun args.out.now args.column l.i l.n l.c l.b l.ok l.out l.invariant.1
          _ c.component_to_end.ensures.tells_component _ _ (ended-found c.in-Ok.is) pen-value.result _ pen-value.ensures _ (ended-in args.s.now l.i c.component_to_end.ensures.end_in c.in-Ok.is).ends _ h,
    )

pub shape_of-out-in-Break : goal.shape_of-out-in-Break
shape_of-out-in-Break c =
    let loop = c.loop-part in
    let pen-value = c.pen_value-t in
    pens-length (pens-then loop.invariant.1.pens pen-value.ensures.pens)

pub returns-in-Break : goal.returns-in-Break
returns-in-Break c =
    let args = c.args in
    let pen-value = c.pen_value-t in
    let separator = c.separator in
    let l = c.loop-part in
    inks-all args.s.now args.at args.style args.mark args.kind args.begun args.out.now args.column l.i l.n l.c l.b l.ok l.out l.invariant.1 _
    c.component_to_end.ensures.tells_component _ _ (ended-found c.in-Ok.is) pen-value.result _ pen-value.ensures _
    (ended-in args.s.now l.i c.component_to_end.ensures.end_in c.in-Ok.is).ends _ (turn-as separator.ensures c.in-Break.is)
