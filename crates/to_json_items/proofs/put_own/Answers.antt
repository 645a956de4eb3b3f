use Rattle.output.proofs.Laws.{failed}
use native.Mathlib.Nat.{le_refl}
use native.Mathlib.Omega.{arith}
use Rattle.output.proofs.Rests.{rest_in, rest-fit, rest-same}
use Rattle.convert_values.specs.Values.{texts_of}
use Rattle.convert_values.proofs.Texts.{part-good}
use Rattle.to_json_items.proofs.Pieces.{putting-start, putting-full, wrote, putting-last, putting-on}
use Rattle.to_json_items.proofs.put_own.Goals as goal

pub loop-n-init : goal.loop-n-init
loop-n-init c =
    let args = c.args in
    let pre = c.requires in
    putting-start args.k args.d (texts_of 44 args.o.now) args.v.now args.out.now args.begun pre.0

pub slice_bounds-is_own-count : goal.slice_bounds-is_own-count
slice_bounds-is_own-count c = omega (arith, c.part_end-e.ensures.from, c.part_end-e.ensures.within c.loop-n.invariant.upto)

pub slice_bounds-is_own-start : goal.slice_bounds-is_own-start
slice_bounds-is_own-start c = omega (arith, c.part_end-e.ensures.from, c.part_end-e.ensures.within c.loop-n.invariant.upto)

pub slice_bounds-is_own-end : goal.slice_bounds-is_own-end
slice_bounds-is_own-end c = omega (arith, c.part_end-e.ensures.from, c.part_end-e.ensures.within c.loop-n.invariant.upto)

pub is_own-on-requires : goal.is_own-on-requires
is_own-on-requires c =
    let pre = c.requires in
    let args = c.args in
    let loop = c.loop-n in
    (part-good args.d args.v.now loop.i _ c.part_end-e.ensures loop.invariant.good, pre.1, pre.2)

pub slice_bounds-put_item_if-count : goal.slice_bounds-put_item_if-count
slice_bounds-put_item_if-count c = rest_in c.loop-n.invariant.rest

pub slice_bounds-put_item_if-start : goal.slice_bounds-put_item_if-start
slice_bounds-put_item_if-start c = rest_in c.loop-n.invariant.rest

pub slice_bounds-put_item_if-end : goal.slice_bounds-put_item_if-end
slice_bounds-put_item_if-end c = le_refl _

pub slice_bounds-put_item_if-count-in-loop-n : goal.slice_bounds-put_item_if-count-in-loop-n
slice_bounds-put_item_if-count-in-loop-n c = omega (arith, c.part_end-e.ensures.from, c.part_end-e.ensures.within c.loop-n.invariant.upto)

pub slice_bounds-put_item_if-start-in-loop-n : goal.slice_bounds-put_item_if-start-in-loop-n
slice_bounds-put_item_if-start-in-loop-n c = omega (arith, c.part_end-e.ensures.from, c.part_end-e.ensures.within c.loop-n.invariant.upto)

pub slice_bounds-put_item_if-end-in-loop-n : goal.slice_bounds-put_item_if-end-in-loop-n
slice_bounds-put_item_if-end-in-loop-n c = omega (arith, c.part_end-e.ensures.from, c.part_end-e.ensures.within c.loop-n.invariant.upto)

pub put_item_if-requires : goal.put_item_if-requires
put_item_if-requires c =
    let args = c.args in
    let loop = c.loop-n in
    let part-end = c.part_end-e in
    part-good args.d args.v.now loop.i _ part-end.ensures loop.invariant.good

pub returns-in_err-n : goal.returns-in_err-n
returns-in_err-n c =
    failed c.from_residual.ensures.0
    (let args = c.args in
    let loop = c.loop-n in
    let part-end = c.part_end-e in
    let is-own = c.is_own-on in
    let put-item-if = c.put_item_if in
    putting-full args.k args.d (texts_of 44 args.o.now) args.v.now loop.invariant _ part-end.ensures _ is-own.ensures
    put-item-if.ensures c.in_err-n.was)

pub overflow_add-at : goal.overflow_add-at
overflow_add-at c =
    let args = c.args in
    let good = c.well_formed in
    let loop = c.loop-n in
    let part-end = c.part_end-e in
    let is-own = c.is_own-on in
    let put-item-if = c.put_item_if in
    rest-fit
    (wrote args.k args.d (texts_of 44 args.o.now) args.v.now loop.invariant _ part-end.ensures _ is-own.ensures
    put-item-if.ensures _ c.in_ok-n.was)
    good.0.0

pub shape_of-out-then-e-v : goal.shape_of-out-then-e-v
shape_of-out-then-e-v c =
    let args = c.args in
    let loop = c.loop-n in
    let part-end = c.part_end-e in
    let is-own = c.is_own-on in
    let put-item-if = c.put_item_if in
    rest-same
    (wrote args.k args.d (texts_of 44 args.o.now) args.v.now loop.invariant _ part-end.ensures _ is-own.ensures
    put-item-if.ensures _ c.in_ok-n.was)

pub returns-then-e-v : goal.returns-then-e-v
returns-then-e-v c =
    let args = c.args in
    let loop = c.loop-n in
    let part-end = c.part_end-e in
    let is-own = c.is_own-on in
    let put-item-if = c.put_item_if in
    putting-last args.k args.d (texts_of 44 args.o.now) args.v.now loop.invariant _ part-end.ensures _ is-own.ensures
    put-item-if.ensures _ c.in_ok-n.was (omega (arith, c.if-e-v.true))

pub overflow_add-i : goal.overflow_add-i
overflow_add-i c = omega (arith, c.if-e-v.false, c.well_formed.1.0)

pub loop-n-smaller : goal.loop-n-smaller
loop-n-smaller c = omega (arith, c.if-e-v.false, c.part_end-e.ensures.from)

pub loop-n-preserved : goal.loop-n-preserved
loop-n-preserved c =
    let args = c.args in
    let loop = c.loop-n in
    let part-end = c.part_end-e in
    let is-own = c.is_own-on in
    let put-item-if = c.put_item_if in
    putting-on args.k args.d (texts_of 44 args.o.now) args.v.now loop.invariant _ part-end.ensures _ is-own.ensures
    put-item-if.ensures _ c.in_ok-n.was (omega (arith, c.if-e-v.false))
