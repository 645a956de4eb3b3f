use borrow.Author.Rules.{rules}
use native.Mathlib.Nat.{le_refl}
use native.Mathlib.Omega.{arith}
use Rattle.output.proofs.Laws.{within}
use Rattle.json_strings.proofs.Bare.{copied_none, copied-run, copied-then, copied-held}
use Rattle.json_strings.proofs.copy_bare.Goals as goal

pub returns-then-hold-ne0 : goal.returns-then-hold-ne0
returns-then-hold-ne0 c = copied_none c.args.s.now c.args.at c.args.hold _ (search rules)

pub loop-out-init : goal.loop-out-init
loop-out-init c = copied_none c.args.s.now c.args.at 0 _ (search rules)

pub overflow_sub-out : goal.overflow_sub-out
overflow_sub-out c = within c.loop-out.invariant.so

pub overflow_add-at : goal.overflow_add-at
overflow_add-at c = omega (arith, c.loop-out.invariant.within)

pub overflow_add-at-in-loop-out : goal.overflow_add-at-in-loop-out
overflow_add-at-in-loop-out c = omega (arith, c.loop-out.invariant.within)

pub copy_sixteen-requires : goal.copy_sixteen-requires
copy_sixteen-requires c = let run = c.has_run.ensures c.loop-out-test.true in record { to_in_bounds = omega (arith, run.0); at_in_bounds = run.1 }

pub overflow_add-n : goal.overflow_add-n
overflow_add-n c = omega (arith, (c.has_run.ensures c.loop-out-test.true).0, c.well_formed.0.0)

pub loop-out-smaller : goal.loop-out-smaller
loop-out-smaller c = omega (arith, (c.has_run.ensures c.loop-out-test.true).1)

pub loop-out-preserved : goal.loop-out-preserved
loop-out-preserved c =
    let run = c.has_run.ensures c.loop-out-test.true in
    copied-run c.args.s.now c.args.at c.loop-out.invariant 16 run.1 run.2 c.copy_sixteen.ensures

pub slice_bounds-copy_from-count : goal.slice_bounds-copy_from-count
slice_bounds-copy_from-count c = within c.loop-out.invariant.so

pub slice_bounds-copy_from-start : goal.slice_bounds-copy_from-start
slice_bounds-copy_from-start c = within c.loop-out.invariant.so

pub slice_bounds-copy_from-end : goal.slice_bounds-copy_from-end
slice_bounds-copy_from-end c = le_refl _

pub overflow_add-at-2 : goal.overflow_add-at-2
overflow_add-at-2 c = omega (arith, c.loop-out.invariant.within)

pub copy_from-m-requires : goal.copy_from-m-requires
copy_from-m-requires c = c.loop-out.invariant.within

pub overflow_add-result : goal.overflow_add-result
overflow_add-result c =
    let args = c.args in
    let all = copied-then args.s.now args.at c.loop-out.invariant c.copy_from-m.ensures in
    omega (arith, all.so.fits, c.well_formed.0.0)

pub shape_of-out : goal.shape_of-out
shape_of-out c =
    let args = c.args in
    let all = copied-then args.s.now args.at c.loop-out.invariant c.copy_from-m.ensures in
    all.so.same

pub returns : goal.returns
returns c =
    let args = c.args in
    let all = copied-then args.s.now args.at c.loop-out.invariant c.copy_from-m.ensures in
    copied-held _ _ c.if-hold-ne0.false all
