use native.Mathlib.Omega.{arith}
use native.Mathlib.Nat.{le_refl}
use Prim.Native.Nat.{◌-◌}
use Rattle.line_pen.proofs.Laws.{pens-in, pens-length, pens-then}
use Rattle.to_card_kept_entry.proofs.writing.Rows.{far-first, far-on, far-all}
use Rattle.to_card_kept_entry.proofs.writing.pen_params.Goals as goal

pub bounds-t-6 : goal.bounds-t-6
bounds-t-6 c = omega (arith, c.requires.wide)

pub loop-i-init : goal.loop-i-init
loop-i-init c =
    let a = c.args in
    (omega arith, far-first a.b.now a.t.now a.out.now a.column)

pub is_more-more-requires : goal.is_more-more-requires
is_more-more-requires c = (c.requires.wide, omega (arith, c.requires.few, c.loop-i-test.true))

pub is_quoted-quoted-requires : goal.is_quoted-quoted-requires
is_quoted-quoted-requires c = (c.requires, c.loop-i-test.true)

pub slice_bounds-pen_row-count : goal.slice_bounds-pen_row-count
slice_bounds-pen_row-count c = omega (arith, pens-in c.loop-i.invariant.1.pens, pens-length c.loop-i.invariant.1.pens)

pub slice_bounds-pen_row-start : goal.slice_bounds-pen_row-start
slice_bounds-pen_row-start c = omega (arith, pens-in c.loop-i.invariant.1.pens, pens-length c.loop-i.invariant.1.pens)

pub slice_bounds-pen_row-end : goal.slice_bounds-pen_row-end
slice_bounds-pen_row-end c = le_refl _

pub pen_row-p-requires : goal.pen_row-p-requires
pen_row-p-requires c = (c.requires, c.loop-i-test.true)

pub overflow_add-at : goal.overflow_add-at
overflow_add-at c = record { fits = omega (arith, pens-in (pens-then c.loop-i.invariant.1.pens c.pen_row-p.ensures.pens), c.well_formed.0.0) }

pub loop-i-preserved : goal.loop-i-preserved
loop-i-preserved c =
    let w = c.loop-i-test in
    let a = c.args in
    let l = c.loop-i in
    let is-more = c.is_more-more in
    let is-quoted = c.is_quoted-quoted in
    let pen-row = c.pen_row-p in
    (omega (arith, w.true), far-on a.b.now a.t.now l.invariant.1 is-more.ensures is-quoted.ensures pen-row.ensures)

pub shape_of-out : goal.shape_of-out
shape_of-out c = pens-length c.loop-i.invariant.1.pens

pub returns : goal.returns
returns c =
    let a = c.args in
    let l = c.loop-i in
    far-all a.b.now a.t.now l.invariant.1 (omega (arith, l.invariant.0, c.loop-i-test.false))
