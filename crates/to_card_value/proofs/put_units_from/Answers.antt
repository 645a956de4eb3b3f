use Rattle.to_card_value.proofs.Units.{going-first, units-wrong, units-on, units-all}
use Rattle.line_pen.proofs.Laws.{pens-in, pens-length, pens-then}
use Rattle.text.proofs.Places.{turn-as}
use Prim.Native.Nat.{◌-◌}
use native.Mathlib.Nat.{le_refl}
use native.Mathlib.Omega.{arith}
use Rattle.to_card_value.proofs.put_units_from.Goals as goal

pub loop-column-init : goal.loop-column-init
loop-column-init c = (c.requires, going-first c.args.s.now c.args.at c.args.out.now c.args.column)

pub unit_in-q-requires : goal.unit_in-q-requires
unit_in-q-requires c = omega (arith, c.element_at-p.ensures.inside.ordered, c.element_at-p.ensures.inside.end-in)

pub shape_of-out-then-q-eq0 : goal.shape_of-out-then-q-eq0
shape_of-out-then-q-eq0 c = pens-length c.loop-column.invariant.1.pens

pub returns-then-q-eq0 : goal.returns-then-q-eq0
returns-then-q-eq0 c =
    let args = c.args in
    let loop = c.loop-column in
    let unit-in = c.unit_in-q in record {
      ink_in = tt;
      out_len_unchanged = pens-length loop.invariant.1.pens;
      units_from = units-wrong args.s.now args.at args.out.now args.column loop.i loop.n loop.k loop.ok loop.filled loop.out loop.invariant.1 c.element_at-p.result c.element_at-p.ensures.tells_element unit-in.result unit-in.ensures _ c.if-q-eq0.true;
    }

pub slice_bounds-pen_unit-count : goal.slice_bounds-pen_unit-count
slice_bounds-pen_unit-count c = omega (arith, pens-in c.loop-column.invariant.1.pens, pens-length c.loop-column.invariant.1.pens)

pub slice_bounds-pen_unit-start : goal.slice_bounds-pen_unit-start
slice_bounds-pen_unit-start c = omega (arith, pens-in c.loop-column.invariant.1.pens, pens-length c.loop-column.invariant.1.pens)

pub slice_bounds-pen_unit-end : goal.slice_bounds-pen_unit-end
slice_bounds-pen_unit-end c = le_refl _

pub overflow_add-n : goal.overflow_add-n
overflow_add-n c =
    let good = c.well_formed in
    let loop = c.loop-column in
    let pen-unit = c.pen_unit-t in
    record { fits = omega (arith, pens-in (pens-then loop.invariant.1.pens pen-unit.ensures.pens), good.0.0) }

pub separator-requires : goal.separator-requires
separator-requires c = record { at_in_bounds = c.element_at-p.ensures.inside.end-in; close_bound = omega arith }

pub loop-column-smaller : goal.loop-column-smaller
loop-column-smaller c =
    let loop = c.loop-column in
    let separator = c.separator in
    let h = turn-as separator.ensures c.in-Continue.is in omega
    (arith, h.within.0, h.within.1, c.element_at-p.ensures.inside.from loop.invariant.0, c.element_at-p.ensures.inside.ordered)

pub loop-column-preserved : goal.loop-column-preserved
loop-column-preserved c =
    let args = c.args in
    let loop = c.loop-column in
    let unit-in = c.unit_in-q in
    let if1 = c.if-q-eq0 in
    let pen-unit = c.pen_unit-t in
    let separator = c.separator in
    let h = turn-as separator.ensures c.in-Continue.is in (
      h.within.1,
      units-on args.s.now args.at args.out.now args.column loop.i loop.n loop.k loop.ok loop.filled loop.out loop.invariant.1 c.element_at-p.result c.element_at-p.ensures.tells_element unit-in.result unit-in.ensures if1.false pen-unit.result _ pen-unit.ensures _ h,
    )

pub shape_of-out-in-Break : goal.shape_of-out-in-Break
shape_of-out-in-Break c = pens-length (pens-then c.loop-column.invariant.1.pens c.pen_unit-t.ensures.pens)

pub returns-in-Break : goal.returns-in-Break
returns-in-Break c =
    let args = c.args in
    let loop = c.loop-column in
    let unit-in = c.unit_in-q in
    let if1 = c.if-q-eq0 in
    let pen-unit = c.pen_unit-t in
    let separator = c.separator in record {
      ink_in = pens-in (pens-then loop.invariant.1.pens pen-unit.ensures.pens);
      out_len_unchanged = pens-length (pens-then loop.invariant.1.pens pen-unit.ensures.pens);
      units_from = units-all args.s.now args.at args.out.now args.column loop.i loop.n loop.k loop.ok loop.filled loop.out
          loop.invariant.1 c.element_at-p.result c.element_at-p.ensures.tells_element unit-in.result unit-in.ensures if1.false pen-unit.result _
          pen-unit.ensures _ (turn-as separator.ensures c.in-Break.is);
    }
