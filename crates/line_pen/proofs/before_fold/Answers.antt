use native.Mathlib.Omega.{arith}
use mathlib.Core.Path.{◌≡◌, sym, subst, ◌∙◌}
use lib.ListN.{length}
use Rattle.line_pen.specs.Pen.{Stands}
use Rattle.line_pen.proofs.Laws.{stands-early, stands-more}
use Rattle.line_pen.proofs.before_fold.Goals as goal

pub loop-n-init : goal.loop-n-init
loop-n-init c = stands-early c.args.s.now c.before_wide-n.ensures

pub overflow_add-column : goal.overflow_add-column
overflow_add-column c = record { fits = omega (arith, c.loop-n.invariant.near, c.ranges) }

pub returns-then-column-n-ge75 : goal.returns-then-column-n-ge75
returns-then-column-n-ge75 c = c.loop-n.invariant

pub overflow_add-column-in-loop-n : goal.overflow_add-column-in-loop-n
overflow_add-column-in-loop-n c = record { fits = omega (arith, c.loop-n.invariant.near, c.ranges) }

pub bounds-s-n : goal.bounds-s-n
bounds-s-n c = c.loop-n-test.true

pub returns-then-folds_before : goal.returns-then-folds_before
returns-then-folds_before c = c.loop-n.invariant

pub loop-n-preserved : goal.loop-n-preserved
loop-n-preserved c =
    let free = sym c.folds_before.ensures ∙ c.if-folds_before.false in
    stands-more c.args.s.now c.loop-n.invariant c.loop-n-test.true (omega (arith, c.if-column-n-ge75.false)) free

pub returns : goal.returns
returns c =
    let e : c.loop-n.n ≡ length c.args.s.now = omega (arith, c.loop-n-test.false, c.loop-n.invariant.within) in
    subst (Stands c.args.column c.args.s.now) e c.loop-n.invariant
