use Rattle.output.proofs.Laws.{failed}
use mathlib.Core.Path.{refl}
use native.Mathlib.Nat.{le_refl}
use native.Mathlib.Omega.{arith}
use Rattle.output.proofs.Rests.{rest_all, rest-done, rest_in, rest-fit, rest-same}
use Rattle.to_json_name.proofs.Parts.{passing-start, passing-here, passing-next}
use Rattle.to_json_name.proofs.Names.{no-parts, parts-full, parts-on}
use Rattle.to_json_name.proofs.put_parts.Goals as goal

pub loop-k-init : goal.loop-k-init
loop-k-init c = (omega arith, passing-start c.args.v.now, rest_all _ _)

pub slice_bounds-put_part-count : goal.slice_bounds-put_part-count
slice_bounds-put_part-count c = rest_in c.loop-k.invariant.2

pub slice_bounds-put_part-start : goal.slice_bounds-put_part-start
slice_bounds-put_part-start c = rest_in c.loop-k.invariant.2

pub slice_bounds-put_part-end : goal.slice_bounds-put_part-end
slice_bounds-put_part-end c = le_refl _

pub put_part-requires : goal.put_part-requires
put_part-requires c =
    let args = c.args in
    let pre = c.requires in
    let loop = c.loop-k in
    (pre, passing-here args.v.now loop.from loop.k loop.k loop.invariant.1 refl, c.part_end-end.ensures)

pub returns-in_err-n : goal.returns-in_err-n
returns-in_err-n c =
    failed c.from_residual.ensures.0
    (let args = c.args in
    let loop = c.loop-k in
    let loop-test = c.loop-k-test in
    let put-part = c.put_part in
    parts-full args.v.now loop.k loop.begun loop-test.true loop.invariant.2 put-part.ensures c.in_err-n.was)

pub overflow_add-at : goal.overflow_add-at
overflow_add-at c =
    let args = c.args in
    let good = c.well_formed in
    let loop = c.loop-k in
    let loop-test = c.loop-k-test in
    let put-part = c.put_part in
    rest-fit (parts-on args.v.now loop.k loop.begun loop-test.true loop.invariant.2 put-part.ensures _ c.in_ok-n.was)
    good.0.0

pub loop-k-preserved : goal.loop-k-preserved
loop-k-preserved c =
    let args = c.args in
    let loop = c.loop-k in
    let loop-test = c.loop-k-test in
    let part-end = c.part_end-end in
    let put-part = c.put_part in (
      omega (arith, loop-test.true),
      passing-next args.v.now loop.from loop.k _ loop.invariant.1 part-end.ensures _ c.part_after-from.ensures.0 c.part_after-from.ensures.1,
      parts-on args.v.now loop.k loop.begun loop-test.true loop.invariant.2 put-part.ensures _ c.in_ok-n.was,
    )

pub shape_of-out : goal.shape_of-out
shape_of-out c = rest-same c.loop-k.invariant.2

pub returns : goal.returns
returns c =
    let args = c.args in
    let loop = c.loop-k in
    rest-done (no-parts args.v.now loop.k loop.begun (omega (arith, c.loop-k-test.false))) loop.invariant.2
