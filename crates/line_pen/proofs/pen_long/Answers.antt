use native.Mathlib.Omega.{arith}
use native.Mathlib.Nat.{le_refl}
use lib.Seq.{take_all}
use Rattle.line_pen.proofs.Laws.{pens-none, pens-in, pens-length, pens-then, pens-as, one_more, stands-in, copied, Here, first! }
use Rattle.line_pen.proofs.pen_long.Goals as goal
use Rattle.line_pen.proofs.pen_long.Goals.{After-slice_known-then-m-gt0-1}

-- after a part that was copied
abbrev more : (c : After-slice_known-then-m-gt0-1) → Here
more c =
    let l = c.loop-i in
    first! (copied c.args.s.now l.i l.invariant.0 c.before_fold-m.ensures l.invariant.1 c.fill-at.ensures)

pub loop-i-init : goal.loop-i-init
loop-i-init c = (omega arith, pens-none _ _)

pub slice_bounds-before_fold-count : goal.slice_bounds-before_fold-count
slice_bounds-before_fold-count c = c.loop-i.invariant.0

pub slice_bounds-before_fold-start : goal.slice_bounds-before_fold-start
slice_bounds-before_fold-start c = c.loop-i.invariant.0

pub slice_bounds-before_fold-end : goal.slice_bounds-before_fold-end
slice_bounds-before_fold-end c = le_refl _

pub overflow_add-e : goal.overflow_add-e
overflow_add-e c =
    let l = c.loop-i in
    record { fits = omega (arith, stands-in c.args.s.now l.i l.invariant.0 c.before_fold-m.ensures, c.well_formed.1.1.0.0) }

pub slice_bounds-fill-count : goal.slice_bounds-fill-count
slice_bounds-fill-count c = omega (arith, pens-in c.loop-i.invariant.1, pens-length c.loop-i.invariant.1)

pub slice_bounds-fill-start : goal.slice_bounds-fill-start
slice_bounds-fill-start c = omega (arith, pens-in c.loop-i.invariant.1, pens-length c.loop-i.invariant.1)

pub slice_bounds-fill-end : goal.slice_bounds-fill-end
slice_bounds-fill-end c = le_refl _

pub slice_bounds-fill-count-then-m-gt0 : goal.slice_bounds-fill-count-then-m-gt0
slice_bounds-fill-count-then-m-gt0 c = omega arith

pub slice_bounds-fill-start-then-m-gt0 : goal.slice_bounds-fill-start-then-m-gt0
slice_bounds-fill-start-then-m-gt0 c = omega arith

pub slice_bounds-fill-end-then-m-gt0 : goal.slice_bounds-fill-end-then-m-gt0
slice_bounds-fill-end-then-m-gt0 c =
    let l = c.loop-i in
    stands-in c.args.s.now l.i l.invariant.0 c.before_fold-m.ensures

pub overflow_add-at : goal.overflow_add-at
overflow_add-at c = record { fits = omega (arith, pens-in (more c).so, c.well_formed.0.0) }

pub overflow_add-k : goal.overflow_add-k
overflow_add-k c = record { fits = omega (arith, c.before_fold-m.ensures.near, c.if-m-gt0.true) }

pub loop-i-smaller-then-m-gt0 : goal.loop-i-smaller-then-m-gt0
loop-i-smaller-then-m-gt0 c = omega (arith, c.if-m-gt0.true, c.loop-i-test.true)

pub loop-i-preserved-then-m-gt0 : goal.loop-i-preserved-then-m-gt0
loop-i-preserved-then-m-gt0 c =
    let l = c.loop-i in
    (stands-in c.args.s.now l.i l.invariant.0 c.before_fold-m.ensures, (more c).so)

pub slice_bounds-pen_byte-count : goal.slice_bounds-pen_byte-count
slice_bounds-pen_byte-count c = omega (arith, pens-in c.loop-i.invariant.1, pens-length c.loop-i.invariant.1)

pub slice_bounds-pen_byte-start : goal.slice_bounds-pen_byte-start
slice_bounds-pen_byte-start c = omega (arith, pens-in c.loop-i.invariant.1, pens-length c.loop-i.invariant.1)

pub slice_bounds-pen_byte-end : goal.slice_bounds-pen_byte-end
slice_bounds-pen_byte-end c = le_refl _

pub bounds-s-i : goal.bounds-s-i
bounds-s-i c = c.loop-i-test.true

pub overflow_add-at-in-loop-i : goal.overflow_add-at-in-loop-i
overflow_add-at-in-loop-i c =
    let both = pens-then c.loop-i.invariant.1 c.pen_byte-p.ensures in
    record { fits = omega (arith, pens-in both, c.well_formed.0.0) }

pub loop-i-preserved : goal.loop-i-preserved
loop-i-preserved c =
    let l = c.loop-i in
    let t = c.loop-i-test.true in
    (omega (arith, t), pens-as (one_more c.args.s.now l.i t) (pens-then l.invariant.1 c.pen_byte-p.ensures))

pub shape_of-out : goal.shape_of-out
shape_of-out c = pens-length c.loop-i.invariant.1

pub returns : goal.returns
returns c = pens-as (take_all c.loop-i.i c.args.s.now c.loop-i-test.false) c.loop-i.invariant.1
