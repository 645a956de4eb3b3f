use mathlib.Core.Path.{refl}
use native.Mathlib.Omega.{arith}
use Rattle.text.specs.Bytes.{lowered}
use Rattle.line_table.specs.Table.{part}
use Rattle.to_json_kept_values.proofs.Lists.{counting-start, counting-on, counting-all}
use Rattle.to_json_kept_values.proofs.count_named.Goals as goal

pub bounds-t-6 : goal.bounds-t-6
bounds-t-6 c = omega (arith, c.requires.0.wide)

pub loop-k-init : goal.loop-k-init
loop-k-init c = counting-start (lowered (part c.args.s.now c.args.a c.args.b)) c.args.s.now c.args.t.now _

pub overflow_mul-i : goal.overflow_mul-i
overflow_mul-i c = omega (arith, c.requires.0.wide, c.requires.0.few, c.loop-k-test.true)

pub overflow_add-i : goal.overflow_add-i
overflow_add-i c = omega (arith, c.requires.0.wide, c.requires.0.few, c.loop-k-test.true)

pub offset_bounds-t-i : goal.offset_bounds-t-i
offset_bounds-t-i c = omega (arith, c.requires.0.wide, c.requires.0.few, c.loop-k-test.true)

pub bounds-t-i : goal.bounds-t-i
bounds-t-i c = omega (arith, c.requires.0.wide, c.requires.0.few, c.loop-k-test.true)

pub overflow_add-d : goal.overflow_add-d
overflow_add-d c = omega (arith, c.requires.0.wide, c.requires.0.few, c.loop-k-test.true)

pub offset_bounds-t-i-in-loop-k : goal.offset_bounds-t-i-in-loop-k
offset_bounds-t-i-in-loop-k c = omega (arith, c.requires.0.wide, c.requires.0.few, c.loop-k-test.true)

pub bounds-t-i-in-loop-k : goal.bounds-t-i-in-loop-k
bounds-t-i-in-loop-k c = omega (arith, c.requires.0.wide, c.requires.0.few, c.loop-k-test.true)

pub slice_bounds-same_name-count : goal.slice_bounds-same_name-count
slice_bounds-same_name-count c = let v = c.requires.0.rows.name c.loop-k.k c.loop-k-test.true in omega (arith, v.ordered, v.within)

pub slice_bounds-same_name-start : goal.slice_bounds-same_name-start
slice_bounds-same_name-start c = let v = c.requires.0.rows.name c.loop-k.k c.loop-k-test.true in omega (arith, v.ordered, v.within)

pub slice_bounds-same_name-end : goal.slice_bounds-same_name-end
slice_bounds-same_name-end c = let v = c.requires.0.rows.name c.loop-k.k c.loop-k-test.true in omega (arith, v.ordered, v.within)

pub slice_bounds-same_name-count-in-loop-k : goal.slice_bounds-same_name-count-in-loop-k
slice_bounds-same_name-count-in-loop-k c = omega (arith, c.requires.1.ordered, c.requires.1.within)

pub slice_bounds-same_name-start-in-loop-k : goal.slice_bounds-same_name-start-in-loop-k
slice_bounds-same_name-start-in-loop-k c = omega (arith, c.requires.1.ordered, c.requires.1.within)

pub slice_bounds-same_name-end-in-loop-k : goal.slice_bounds-same_name-end-in-loop-k
slice_bounds-same_name-end-in-loop-k c = omega (arith, c.requires.1.ordered, c.requires.1.within)

pub overflow_add-m : goal.overflow_add-m
overflow_add-m c =
    let pre = c.requires in
    let args = c.args in
    let loop = c.loop-k in
    let loop-test = c.loop-k-test in
    let h = counting-on (lowered (part args.s.now args.a args.b)) args.s.now args.t.now loop.invariant loop-test.true _
    c.same_name-on.ensures _ c.one_if-m.ensures in omega (arith, h.few, h.upto, pre.0.few)

pub loop-k-preserved : goal.loop-k-preserved
loop-k-preserved c =
    let args = c.args in
    let loop = c.loop-k in
    let loop-test = c.loop-k-test in
    counting-on (lowered (part args.s.now args.a args.b)) args.s.now args.t.now loop.invariant loop-test.true _
    c.same_name-on.ensures _ c.one_if-m.ensures

pub returns : goal.returns
returns c =
    let args = c.args in
    counting-all (lowered (part args.s.now args.a args.b)) args.s.now args.t.now c.loop-k.invariant
    (omega (arith, c.loop-k-test.false)) refl
