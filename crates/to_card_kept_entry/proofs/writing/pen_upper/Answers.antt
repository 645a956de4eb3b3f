use native.Mathlib.Omega.{arith}
use native.Mathlib.Nat.{le_refl}
use Prim.Native.Nat.{◌-◌}
use Rattle.line_pen.proofs.Laws.{pens-in, pens-length, pens-then}
use Rattle.to_card_kept_entry.proofs.writing.Bytes.{upper_first, upper-on, upper-all}
use Rattle.to_card_kept_entry.proofs.writing.pen_upper.Goals as goal

pub loop-i-init : goal.loop-i-init
loop-i-init c = (omega arith, upper_first c.args.out.now c.args.name.now c.args.column)

pub bounds-name-i : goal.bounds-name-i
bounds-name-i c = c.loop-i-test.true

pub slice_bounds-pen_byte-count : goal.slice_bounds-pen_byte-count
slice_bounds-pen_byte-count c = omega (arith, pens-in c.loop-i.invariant.1, pens-length c.loop-i.invariant.1)

pub slice_bounds-pen_byte-start : goal.slice_bounds-pen_byte-start
slice_bounds-pen_byte-start c = omega (arith, pens-in c.loop-i.invariant.1, pens-length c.loop-i.invariant.1)

pub slice_bounds-pen_byte-end : goal.slice_bounds-pen_byte-end
slice_bounds-pen_byte-end c = le_refl _

pub overflow_add-at : goal.overflow_add-at
overflow_add-at c = record { fits = omega (arith, pens-in (pens-then c.loop-i.invariant.1 c.pen_byte-p.ensures), c.well_formed.0.0) }

pub loop-i-preserved : goal.loop-i-preserved
loop-i-preserved c =
    let w = c.loop-i-test in
    let a = c.args in
    let l = c.loop-i in
    let upper_of = c.upper_of-c in
    let pen-byte = c.pen_byte-p in
    (omega (arith, w.true), upper-on a.name.now l.invariant.1 w.true upper_of.ensures pen-byte.ensures)

pub shape_of-out : goal.shape_of-out
shape_of-out c = pens-length c.loop-i.invariant.1

pub returns : goal.returns
returns c = upper-all c.args.name.now c.loop-i.invariant.1 c.loop-i-test.false
