use Rattle.to_card_params.proofs.Types.{far-first, far-on, far-end}
use Rattle.line_pen.proofs.Laws.{pens-in, pens-length, pens-then}
use Rattle.text.specs.Bytes.{parts}
use native.Mathlib.Nat.{le_refl}
use native.Mathlib.Omega.{arith}
use Rattle.to_card_params.proofs.pen_types.Goals as goal

pub loop-c-init : goal.loop-c-init
loop-c-init c = (omega arith, far-first (parts 44 c.args.names.now) c.args.row.now c.args.out.now c.args.column)

pub bounds-row-c : goal.bounds-row-c
bounds-row-c c = omega (arith, c.requires, c.loop-c-test.true)

pub slice_bounds-pen_type-count : goal.slice_bounds-pen_type-count
slice_bounds-pen_type-count c = omega (arith, pens-in c.loop-c.invariant.1.pens, pens-length c.loop-c.invariant.1.pens)

pub slice_bounds-pen_type-start : goal.slice_bounds-pen_type-start
slice_bounds-pen_type-start c = omega (arith, pens-in c.loop-c.invariant.1.pens, pens-length c.loop-c.invariant.1.pens)

pub slice_bounds-pen_type-end : goal.slice_bounds-pen_type-end
slice_bounds-pen_type-end c = le_refl _

pub overflow_add-at : goal.overflow_add-at
overflow_add-at c = record { fits = omega (arith, pens-in (pens-then c.loop-c.invariant.1.pens c.pen_type-p.ensures), c.well_formed.0.0) }

pub loop-c-preserved : goal.loop-c-preserved
loop-c-preserved c = (omega (arith, c.loop-c-test.true), far-on c.loop-c.invariant.1 c.loop-c-test.true c.pen_type-p.ensures)

pub shape_of-out : goal.shape_of-out
shape_of-out c = pens-length c.loop-c.invariant.1.pens

pub returns : goal.returns
returns c = far-end c.loop-c.invariant.1 c.loop-c-test.false
