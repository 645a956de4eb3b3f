use borrow.Author.Rules.{rules}
use mathlib.Core.Path.{refl, sym, ◌∙◌}
use native.Mathlib.Omega.{arith}
use Rattle.convert_types.proofs.Turns.{value-bad, value-last, value_on}
use Rattle.convert_types.proofs.mark_value.Goals as goal

pub loop-n-init : goal.loop-n-init
loop-n-init c = (omega arith, refl, refl)

pub slice_bounds-type_code-count : goal.slice_bounds-type_code-count
slice_bounds-type_code-count c = omega (arith, c.part_end-e.ensures.from)

pub slice_bounds-type_code-start : goal.slice_bounds-type_code-start
slice_bounds-type_code-start c = omega (arith, c.part_end-e.ensures.from)

pub slice_bounds-type_code-end : goal.slice_bounds-type_code-end
slice_bounds-type_code-end c = c.part_end-e.ensures.within c.loop-n.invariant.0

pub shape_of-row-then-c-ge-COUNT : goal.shape_of-row-then-c-ge-COUNT
shape_of-row-then-c-ge-COUNT c = c.loop-n.invariant.1

pub returns-then-c-ge-COUNT : goal.returns-then-c-ge-COUNT
returns-then-c-ge-COUNT c =
    let args = c.args in
    let loop = c.loop-n in
    let part-end = c.part_end-e in
    sym (value-bad _ _ loop.i _ args.v.now loop.row part-end.ensures c.type_code-c.ensures c.if-c-ge-COUNT.true _) ∙ loop.invariant.2

pub bounds-row-c : goal.bounds-row-c
bounds-row-c c = omega (arith, c.loop-n.invariant.1, c.requires)

pub returns-then-e-v : goal.returns-then-e-v
returns-then-e-v c =
    let args = c.args in
    let loop = c.loop-n in
    let part-end = c.part_end-e in
    sym
    (value-last _ _ loop.i _ args.v.now loop.row part-end.ensures c.type_code-c.ensures c.if-c-ge-COUNT.false
    c.if-e-v.true)
    ∙ loop.invariant.2

pub loop-n-smaller : goal.loop-n-smaller
loop-n-smaller c = omega (arith, c.part_end-e.ensures.from)

pub loop-n-preserved : goal.loop-n-preserved
loop-n-preserved c =
    let args = c.args in
    let loop = c.loop-n in
    let part-end = c.part_end-e in (
      omega arith,
      search rules,
      sym (value_on _ _ loop.i _ args.v.now loop.row part-end.ensures c.type_code-c.ensures c.if-c-ge-COUNT.false c.if-e-v.false) ∙ loop.invariant.2,
    )
