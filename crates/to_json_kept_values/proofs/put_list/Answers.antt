use Rattle.output.proofs.Laws.{failed}
use mathlib.Core.Path.{refl}
use native.Mathlib.Nat.{le_refl}
use native.Mathlib.Omega.{arith}
use Rattle.text.specs.Bytes.{lowered}
use Rattle.line_table.specs.Table.{part}
use Rattle.output.proofs.Laws.{next, stop, within}
use Rattle.to_json_kept_values.proofs.Lists.{listing_start, listing-on, listing_full, listing-all}
use Rattle.to_json_kept_values.proofs.put_list.Goals as goal

pub bounds-t-6 : goal.bounds-t-6
bounds-t-6 c = omega (arith, c.requires.0.wide)

pub loop-k-init : goal.loop-k-init
loop-k-init c =
    let args = c.args in
    listing_start (lowered (part args.s.now args.a args.b)) args.s.now args.t.now args.out.now _

pub overflow_mul-i : goal.overflow_mul-i
overflow_mul-i c = omega (arith, c.requires.0.wide, c.requires.0.few, c.loop-k-test.true)

pub overflow_add-i : goal.overflow_add-i
overflow_add-i c = omega (arith, c.requires.0.wide, c.requires.0.few, c.loop-k-test.true)

pub offset_bounds-t-i : goal.offset_bounds-t-i
offset_bounds-t-i c = omega (arith, c.requires.0.wide, c.requires.0.few, c.loop-k-test.true)

pub bounds-t-i : goal.bounds-t-i
bounds-t-i c = omega (arith, c.requires.0.wide, c.requires.0.few, c.loop-k-test.true)

pub overflow_add-d : goal.overflow_add-d
overflow_add-d c = omega (arith, c.requires.0.wide, c.requires.0.few, c.loop-k-test.true)

pub offset_bounds-t-i-in-loop-k : goal.offset_bounds-t-i-in-loop-k
offset_bounds-t-i-in-loop-k c = omega (arith, c.requires.0.wide, c.requires.0.few, c.loop-k-test.true)

pub bounds-t-i-in-loop-k : goal.bounds-t-i-in-loop-k
bounds-t-i-in-loop-k c = omega (arith, c.requires.0.wide, c.requires.0.few, c.loop-k-test.true)

pub slice_bounds-same_name-count : goal.slice_bounds-same_name-count
slice_bounds-same_name-count c = let v = c.requires.0.rows.name c.loop-k.k c.loop-k-test.true in omega (arith, v.ordered, v.within)

pub slice_bounds-same_name-start : goal.slice_bounds-same_name-start
slice_bounds-same_name-start c = let v = c.requires.0.rows.name c.loop-k.k c.loop-k-test.true in omega (arith, v.ordered, v.within)

pub slice_bounds-same_name-end : goal.slice_bounds-same_name-end
slice_bounds-same_name-end c = let v = c.requires.0.rows.name c.loop-k.k c.loop-k-test.true in omega (arith, v.ordered, v.within)

pub slice_bounds-same_name-count-in-loop-k : goal.slice_bounds-same_name-count-in-loop-k
slice_bounds-same_name-count-in-loop-k c = omega (arith, c.requires.1.ordered, c.requires.1.within)

pub slice_bounds-same_name-start-in-loop-k : goal.slice_bounds-same_name-start-in-loop-k
slice_bounds-same_name-start-in-loop-k c = omega (arith, c.requires.1.ordered, c.requires.1.within)

pub slice_bounds-same_name-end-in-loop-k : goal.slice_bounds-same_name-end-in-loop-k
slice_bounds-same_name-end-in-loop-k c = omega (arith, c.requires.1.ordered, c.requires.1.within)

pub overflow_add-e : goal.overflow_add-e
overflow_add-e c = omega (arith, c.requires.0.wide, c.requires.0.few, c.loop-k-test.true)

pub offset_bounds-t-i-in-loop-k-2 : goal.offset_bounds-t-i-in-loop-k-2
offset_bounds-t-i-in-loop-k-2 c = omega (arith, c.requires.0.wide, c.requires.0.few, c.loop-k-test.true)

pub bounds-t-i-in-loop-k-2 : goal.bounds-t-i-in-loop-k-2
bounds-t-i-in-loop-k-2 c =
    let pre = c.requires in
    let loop-test = c.loop-k-test in
    omega (arith, pre.0.wide, pre.0.few, loop-test.true)

pub overflow_add-f : goal.overflow_add-f
overflow_add-f c =
    let pre = c.requires in
    let loop-test = c.loop-k-test in
    omega (arith, pre.0.wide, pre.0.few, loop-test.true)

pub offset_bounds-t-i-in-loop-k-3 : goal.offset_bounds-t-i-in-loop-k-3
offset_bounds-t-i-in-loop-k-3 c =
    let pre = c.requires in
    let loop-test = c.loop-k-test in
    omega (arith, pre.0.wide, pre.0.few, loop-test.true)

pub bounds-t-i-in-loop-k-3 : goal.bounds-t-i-in-loop-k-3
bounds-t-i-in-loop-k-3 c =
    let pre = c.requires in
    let loop-test = c.loop-k-test in
    omega (arith, pre.0.wide, pre.0.few, loop-test.true)

pub slice_bounds-put_item-count : goal.slice_bounds-put_item-count
slice_bounds-put_item-count c = within c.loop-k.invariant.so

pub slice_bounds-put_item-start : goal.slice_bounds-put_item-start
slice_bounds-put_item-start c = within c.loop-k.invariant.so

pub slice_bounds-put_item-end : goal.slice_bounds-put_item-end
slice_bounds-put_item-end c = le_refl _

pub slice_bounds-put_item-count-in-loop-k : goal.slice_bounds-put_item-count-in-loop-k
slice_bounds-put_item-count-in-loop-k c =
    let pre = c.requires in
    let loop = c.loop-k in
    let loop-test = c.loop-k-test in
    let v = pre.0.rows.value loop.k loop-test.true in omega (arith, v.ordered, v.within)

pub slice_bounds-put_item-start-in-loop-k : goal.slice_bounds-put_item-start-in-loop-k
slice_bounds-put_item-start-in-loop-k c =
    let pre = c.requires in
    let loop = c.loop-k in
    let loop-test = c.loop-k-test in
    let v = pre.0.rows.value loop.k loop-test.true in omega (arith, v.ordered, v.within)

pub slice_bounds-put_item-end-in-loop-k : goal.slice_bounds-put_item-end-in-loop-k
slice_bounds-put_item-end-in-loop-k c =
    let pre = c.requires in
    let loop = c.loop-k in
    let loop-test = c.loop-k-test in
    let v = pre.0.rows.value loop.k loop-test.true in omega (arith, v.ordered, v.within)

pub returns-in_err-m : goal.returns-in_err-m
returns-in_err-m c =
    failed c.from_residual.ensures.0
    (let args = c.args in
    let loop = c.loop-k in
    let loop-test = c.loop-k-test in
    let same_name = c.same_name-on in
    let put_item = c.put_item in
    listing_full (lowered (part args.s.now args.a args.b)) args.s.now args.t.now loop.invariant loop-test.true _
    same_name.ensures (stop loop.invariant.so put_item.ensures c.in_err-m.was) refl)

pub overflow_add-at : goal.overflow_add-at
overflow_add-at c =
    let good = c.well_formed in
    let loop = c.loop-k in
    let put_item = c.put_item in
    let h = next loop.invariant.so put_item.ensures c.in_ok-m.was in omega (arith, h.fits, good.0.0)

pub loop-k-preserved : goal.loop-k-preserved
loop-k-preserved c =
    let args = c.args in
    let loop = c.loop-k in
    let loop-test = c.loop-k-test in
    let same_name = c.same_name-on in
    let put_item = c.put_item in
    listing-on (lowered (part args.s.now args.a args.b)) args.s.now args.t.now loop.invariant loop-test.true _
    same_name.ensures (next loop.invariant.so put_item.ensures c.in_ok-m.was)

pub shape_of-out : goal.shape_of-out
shape_of-out c = c.loop-k.invariant.so.same

pub returns : goal.returns
returns c =
    let args = c.args in
    listing-all (lowered (part args.s.now args.a args.b)) args.s.now args.t.now c.loop-k.invariant
    (omega (arith, c.loop-k-test.false)) refl
