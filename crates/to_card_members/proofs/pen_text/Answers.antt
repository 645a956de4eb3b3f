use native.Mathlib.Omega.{arith}
use native.Mathlib.Nat.{le_refl}
use mathlib.Core.Path.{sym, ap}
use mathlib.Core.Bool.{false}
use Prim.Native.Nat.{◌-◌}
use lib.Seq.{take_all}
use Rattle.line.specs.Text.{write_text}
use Rattle.line_pen.proofs.Laws.{pens-none, pens-in, pens-length, pens-as, pens-then}
use Rattle.to_card_members.proofs.Pointers.{text-none, text-more}
use Rattle.to_card_members.proofs.pen_text.Goals as goal

pub loop-b-init : goal.loop-b-init
loop-b-init c = (omega arith, pens-as (sym text-none) (pens-none _ _))

pub slice_bounds-pen_escape-count : goal.slice_bounds-pen_escape-count
slice_bounds-pen_escape-count c = omega (arith, pens-in c.loop-b.invariant.1, pens-length c.loop-b.invariant.1)

pub slice_bounds-pen_escape-start : goal.slice_bounds-pen_escape-start
slice_bounds-pen_escape-start c = omega (arith, pens-in c.loop-b.invariant.1, pens-length c.loop-b.invariant.1)

pub slice_bounds-pen_escape-end : goal.slice_bounds-pen_escape-end
slice_bounds-pen_escape-end c = le_refl _

pub overflow_add-at : goal.overflow_add-at
overflow_add-at c = record { fits = omega (arith, pens-in (pens-then c.loop-b.invariant.1 c.pen_escape-p.ensures), c.well_formed.0.0) }

pub loop-b-preserved : goal.loop-b-preserved
loop-b-preserved c =
    let args = c.args in
    let loop = c.loop-b in
    let loop-test = c.loop-b-test in
    let pen-escape = c.pen_escape-p in (
      omega (arith, loop-test.true),
      pens-as (text-more args.s.now loop.b-index loop-test.true) (pens-then loop.invariant.1 pen-escape.ensures),
    )

pub shape_of-out : goal.shape_of-out
shape_of-out c = pens-length c.loop-b.invariant.1

pub returns : goal.returns
returns c = pens-as (ap (write_text false) (take_all c.loop-b.b-index c.args.s.now c.loop-b-test.false)) c.loop-b.invariant.1
