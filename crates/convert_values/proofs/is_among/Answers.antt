use mathlib.Core.Path.{refl}
use native.Mathlib.Omega.{arith}
use Rattle.line_text.specs.Read.{plain_text}
use Rattle.convert_values.proofs.Texts.{part-good, seek_found, seek-on, seek-none}
use Rattle.convert_values.proofs.is_among.Goals as goal

pub loop-i-init : goal.loop-i-init
loop-i-init c = record { upto = omega arith; good = c.requires.1; is = refl }

pub slice_bounds-same_text-count : goal.slice_bounds-same_text-count
slice_bounds-same_text-count c = omega (arith, c.part_end-e.ensures.from, c.part_end-e.ensures.within c.loop-i.invariant.upto)

pub slice_bounds-same_text-start : goal.slice_bounds-same_text-start
slice_bounds-same_text-start c = omega (arith, c.part_end-e.ensures.from, c.part_end-e.ensures.within c.loop-i.invariant.upto)

pub slice_bounds-same_text-end : goal.slice_bounds-same_text-end
slice_bounds-same_text-end c = omega (arith, c.part_end-e.ensures.from, c.part_end-e.ensures.within c.loop-i.invariant.upto)

pub same_text-requires : goal.same_text-requires
same_text-requires c = (c.requires.0, part-good 44 c.args.o.now c.loop-i.i _ c.part_end-e.ensures c.loop-i.invariant.good)

pub returns-then-same_text : goal.returns-then-same_text
returns-then-same_text c = seek_found (plain_text c.args.u.now) c.args.o.now c.loop-i.i _ c.loop-i.invariant c.part_end-e.ensures _ c.same_text.ensures c.if-same_text.true

pub returns-then-e-o : goal.returns-then-e-o
returns-then-e-o c =
    seek-none (plain_text c.args.u.now) c.args.o.now c.loop-i.i _ c.loop-i.invariant c.part_end-e.ensures _ c.same_text.ensures c.if-same_text.false (omega (arith, c.if-e-o.true))

pub overflow_add-i : goal.overflow_add-i
overflow_add-i c = omega (arith, c.if-e-o.false, c.well_formed.1.0)

pub loop-i-smaller : goal.loop-i-smaller
loop-i-smaller c = omega (arith, c.if-e-o.false, c.part_end-e.ensures.from)

pub loop-i-preserved : goal.loop-i-preserved
loop-i-preserved c =
    seek-on (plain_text c.args.u.now) c.args.o.now c.loop-i.i _ c.loop-i.invariant c.part_end-e.ensures _ c.same_text.ensures c.if-same_text.false (omega (arith, c.if-e-o.false))
