use native.Mathlib.Omega.{arith}
use Rattle.text.specs.Bytes.{lowered}
use Rattle.line_table.specs.Table.{name_at}
use Rattle.to_json_kept_values.proofs.Names.{none-start, none-on, found, none-all}
use Rattle.to_json_kept_values.proofs.is_first.Goals as goal

pub overflow_mul-i : goal.overflow_mul-i
overflow_mul-i c = omega (arith, c.requires.0.wide, c.requires.0.few, c.requires.1)

pub overflow_add-i : goal.overflow_add-i
overflow_add-i c = omega (arith, c.requires.0.wide, c.requires.0.few, c.requires.1)

pub offset_bounds-t-i : goal.offset_bounds-t-i
offset_bounds-t-i c = omega (arith, c.requires.0.wide, c.requires.0.few, c.requires.1)

pub bounds-t-i : goal.bounds-t-i
bounds-t-i c = omega (arith, c.requires.0.wide, c.requires.0.few, c.requires.1)

pub overflow_add-b : goal.overflow_add-b
overflow_add-b c = omega (arith, c.requires.0.wide, c.requires.0.few, c.requires.1)

pub offset_bounds-t-i-2 : goal.offset_bounds-t-i-2
offset_bounds-t-i-2 c = omega (arith, c.requires.0.wide, c.requires.0.few, c.requires.1)

pub bounds-t-i-2 : goal.bounds-t-i-2
bounds-t-i-2 c = omega (arith, c.requires.0.wide, c.requires.0.few, c.requires.1)

pub loop-j-init : goal.loop-j-init
loop-j-init c =
    let args = c.args in
    (omega arith, none-start (lowered (name_at args.s.now args.t.now args.k)) args.s.now args.t.now)

pub overflow_mul-l : goal.overflow_mul-l
overflow_mul-l c = omega (arith, c.requires.0.wide, c.requires.0.few, c.requires.1, c.loop-j-test.true)

pub overflow_add-l : goal.overflow_add-l
overflow_add-l c = omega (arith, c.requires.0.wide, c.requires.0.few, c.requires.1, c.loop-j-test.true)

pub offset_bounds-t-l : goal.offset_bounds-t-l
offset_bounds-t-l c = omega (arith, c.requires.0.wide, c.requires.0.few, c.requires.1, c.loop-j-test.true)

pub bounds-t-l : goal.bounds-t-l
bounds-t-l c = omega (arith, c.requires.0.wide, c.requires.0.few, c.requires.1, c.loop-j-test.true)

pub overflow_add-d : goal.overflow_add-d
overflow_add-d c = omega (arith, c.requires.0.wide, c.requires.0.few, c.requires.1, c.loop-j-test.true)

pub offset_bounds-t-l-in-loop-j : goal.offset_bounds-t-l-in-loop-j
offset_bounds-t-l-in-loop-j c = omega (arith, c.requires.0.wide, c.requires.0.few, c.requires.1, c.loop-j-test.true)

pub bounds-t-l-in-loop-j : goal.bounds-t-l-in-loop-j
bounds-t-l-in-loop-j c =
    let pre = c.requires in
    omega (arith, pre.0.wide, pre.0.few, pre.1, c.loop-j-test.true)

pub slice_bounds-same_name-count : goal.slice_bounds-same_name-count
slice_bounds-same_name-count c =
    let pre = c.requires in
    let loop = c.loop-j in
    let v = pre.0.rows.name loop.j (omega (arith, c.loop-j-test.true, pre.1)) in omega (arith, v.ordered, v.within)

pub slice_bounds-same_name-start : goal.slice_bounds-same_name-start
slice_bounds-same_name-start c =
    let pre = c.requires in
    let loop = c.loop-j in
    let v = pre.0.rows.name loop.j (omega (arith, c.loop-j-test.true, pre.1)) in omega (arith, v.ordered, v.within)

pub slice_bounds-same_name-end : goal.slice_bounds-same_name-end
slice_bounds-same_name-end c =
    let pre = c.requires in
    let loop = c.loop-j in
    let v = pre.0.rows.name loop.j (omega (arith, c.loop-j-test.true, pre.1)) in omega (arith, v.ordered, v.within)

pub slice_bounds-same_name-count-in-loop-j : goal.slice_bounds-same_name-count-in-loop-j
slice_bounds-same_name-count-in-loop-j c =
    let args = c.args in
    let pre = c.requires in
    let v = pre.0.rows.name args.k pre.1 in omega (arith, v.ordered, v.within)

pub slice_bounds-same_name-start-in-loop-j : goal.slice_bounds-same_name-start-in-loop-j
slice_bounds-same_name-start-in-loop-j c =
    let args = c.args in
    let pre = c.requires in
    let v = pre.0.rows.name args.k pre.1 in omega (arith, v.ordered, v.within)

pub slice_bounds-same_name-end-in-loop-j : goal.slice_bounds-same_name-end-in-loop-j
slice_bounds-same_name-end-in-loop-j c =
    let args = c.args in
    let pre = c.requires in
    let v = pre.0.rows.name args.k pre.1 in omega (arith, v.ordered, v.within)

pub returns-then-same_name : goal.returns-then-same_name
returns-then-same_name c =
    let args = c.args in
    let loop = c.loop-j in
    let loop-test = c.loop-j-test in
    found (lowered (name_at args.s.now args.t.now args.k)) args.s.now args.t.now loop.j args.k loop-test.true _
    c.same_name.ensures c.if-same_name.true

pub loop-j-preserved : goal.loop-j-preserved
loop-j-preserved c =
    let args = c.args in
    let loop = c.loop-j in
    let loop-test = c.loop-j-test in (
      omega (arith, loop-test.true),
      none-on (lowered (name_at args.s.now args.t.now args.k)) args.s.now args.t.now loop.j loop.invariant.1 _ c.same_name.ensures c.if-same_name.false,
    )

pub returns : goal.returns
returns c =
    let args = c.args in
    let loop = c.loop-j in
    none-all (lowered (name_at args.s.now args.t.now args.k)) args.s.now args.t.now loop.j args.k
    (omega (arith, c.loop-j-test.false, loop.invariant.0)) loop.invariant.1
