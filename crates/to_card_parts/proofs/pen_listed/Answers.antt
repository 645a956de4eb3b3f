use native.Mathlib.Omega.{arith}
use native.Mathlib.Nat.{le_refl}
use Prim.Native.Nat.{◌-◌}
use Rattle.line_pen.proofs.Laws.{pens-in, pens-length, pens-then}
use Rattle.to_card_parts.proofs.Rows.{by-rows-first, by-rows-on, by-rows-all}
use Rattle.to_card_parts.proofs.pen_listed.Goals as goal

pub pen_kind-requires : goal.pen_kind-requires
pen_kind-requires c = c.requires.at_in_bounds

pub shape_of-out-then-rows-gt-ROWS : goal.shape_of-out-then-rows-gt-ROWS
shape_of-out-then-rows-gt-ROWS c = pens-length c.pen_kind.ensures.pens

pub returns-then-rows-gt-ROWS : goal.returns-then-rows-gt-ROWS
returns-then-rows-gt-ROWS c = c.pen_kind.ensures

pub loop-i-init : goal.loop-i-init
loop-i-init c =
    let args = c.args in
    by-rows-first args.s.now args.at args.style args.mark args.kind args.begun args.out.now args.column

pub slice_bounds-pen_value-count : goal.slice_bounds-pen_value-count
slice_bounds-pen_value-count c = omega (arith, pens-in c.loop-i.invariant.pens, pens-length c.loop-i.invariant.pens)

pub slice_bounds-pen_value-start : goal.slice_bounds-pen_value-start
slice_bounds-pen_value-start c = omega (arith, pens-in c.loop-i.invariant.pens, pens-length c.loop-i.invariant.pens)

pub slice_bounds-pen_value-end : goal.slice_bounds-pen_value-end
slice_bounds-pen_value-end c = le_refl _

pub offset_bounds-values-i : goal.offset_bounds-values-i
offset_bounds-values-i c = omega (arith, c.loop-i-test.true, c.if-rows-gt-ROWS.false, c.requires.in_bounds, c.requires.in_bounds_2)

pub bounds-values-i : goal.bounds-values-i
bounds-values-i c =
    let if1 = c.if-rows-gt-ROWS in
    omega (arith, c.loop-i-test.true, if1.false, c.requires.in_bounds, c.requires.in_bounds_2)

pub offset_bounds-kinds-i : goal.offset_bounds-kinds-i
offset_bounds-kinds-i c = omega (arith, c.loop-i-test.true, c.if-rows-gt-ROWS.false, c.requires.in_bounds, c.requires.in_bounds_2)

pub bounds-kinds-i : goal.bounds-kinds-i
bounds-kinds-i c =
    let if1 = c.if-rows-gt-ROWS in
    let loop-test = c.loop-i-test in
    omega (arith, loop-test.true, if1.false, c.requires.in_bounds, c.requires.in_bounds_2)

pub overflow_add-n : goal.overflow_add-n
overflow_add-n c =
    let good = c.well_formed in
    let loop = c.loop-i in
    let pen-value = c.pen_value-t in
    record { fits = omega (arith, pens-in (pens-then loop.invariant.pens pen-value.ensures.pens), good.0.0) }

pub loop-i-preserved : goal.loop-i-preserved
loop-i-preserved c =
    let args = c.args in
    let if1 = c.if-rows-gt-ROWS in
    let loop = c.loop-i in
    let loop-test = c.loop-i-test in
    let pen-value = c.pen_value-t in
    by-rows-on args.s.now args.at args.style args.mark args.kind args.begun args.out.now args.column loop.i loop.n
    loop.c loop.b loop.ok loop.out loop.invariant args.kinds.now args.values.now args.rows (omega (arith, if1.false))
    c.requires.rows_from loop-test.true pen-value.result _ pen-value.ensures

pub shape_of-out : goal.shape_of-out
shape_of-out c = pens-length c.loop-i.invariant.pens

pub returns : goal.returns
returns c =
    let args = c.args in
    let loop = c.loop-i in
    by-rows-all args.s.now args.at args.style args.mark args.kind args.begun args.out.now args.column loop.i loop.n
    loop.c loop.b loop.ok loop.out loop.invariant args.kinds.now args.values.now args.rows
    (omega (arith, c.if-rows-gt-ROWS.false)) c.requires.rows_from c.loop-i-test.false
