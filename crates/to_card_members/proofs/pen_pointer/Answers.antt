use native.Mathlib.Omega.{arith}
use native.Mathlib.Nat.{le_refl}
use Rattle.json_strings.proofs.Laws.{decoded-past}
use Rattle.json_strings.proofs.NextByte.{byte-in}
use Rattle.line_pen.proofs.Laws.{pens-in, pens-length, pens-then}
use Rattle.to_card_members.proofs.Pointers.{far-first, points_none, far-alone, far-end, far-one}
use Rattle.to_card_members.proofs.pen_pointer.Goals as goal

pub returns-then-at-s : goal.returns-then-at-s
returns-then-at-s c = points_none c.args.s.now c.args.at _ c.args.column (decoded-past c.args.s.now c.args.at c.if-at-s.true)

pub loop-b-init : goal.loop-b-init
loop-b-init c = (c.if-at-s.false, far-first c.args.s.now c.args.at c.args.out.now c.args.column)

pub next_byte-requires : goal.next_byte-requires
next_byte-requires c = c.loop-b.invariant.0

pub shape_of-out-in-Alone : goal.shape_of-out-in-Alone
shape_of-out-in-Alone c = pens-length c.loop-b.invariant.1.pens

pub returns-in-Alone : goal.returns-in-Alone
returns-in-Alone c =
    let args = c.args in
    let loop = c.loop-b in
    let next-byte = c.next_byte in
    far-alone args.s.now args.at args.out.now args.column loop.n loop.k loop.ok loop.i loop.h loop.out
    loop.invariant.1 next-byte.result next-byte.ensures.0 c.in-Alone.is

pub shape_of-out-in-End : goal.shape_of-out-in-End
shape_of-out-in-End c = pens-length c.loop-b.invariant.1.pens

pub returns-in-End : goal.returns-in-End
returns-in-End c =
    let args = c.args in
    let loop = c.loop-b in
    let next-byte = c.next_byte in
    far-end args.s.now args.at args.out.now args.column loop.n loop.k loop.ok loop.i loop.h loop.out loop.invariant.1
    next-byte.result next-byte.ensures.0 c.in-End.is

pub slice_bounds-pen_pointed-count : goal.slice_bounds-pen_pointed-count
slice_bounds-pen_pointed-count c = omega (arith, pens-in c.loop-b.invariant.1.pens, pens-length c.loop-b.invariant.1.pens)

pub slice_bounds-pen_pointed-start : goal.slice_bounds-pen_pointed-start
slice_bounds-pen_pointed-start c = omega (arith, pens-in c.loop-b.invariant.1.pens, pens-length c.loop-b.invariant.1.pens)

pub slice_bounds-pen_pointed-end : goal.slice_bounds-pen_pointed-end
slice_bounds-pen_pointed-end c = le_refl _

pub overflow_add-n : goal.overflow_add-n
overflow_add-n c =
    let good = c.well_formed in
    let loop = c.loop-b in
    let pen-pointed = c.pen_pointed-p in
    record { fits = omega (arith, pens-in (pens-then loop.invariant.1.pens pen-pointed.ensures), good.0.0) }

pub loop-b-smaller : goal.loop-b-smaller
loop-b-smaller c =
    let args = c.args in
    let loop = c.loop-b in
    let next-byte = c.next_byte in
    (byte-in args.s.now loop.i loop.h next-byte.ensures.1 c.in-One.is).1

pub loop-b-preserved : goal.loop-b-preserved
loop-b-preserved c =
    let args = c.args in
    let loop = c.loop-b in
    let next-byte = c.next_byte in
    let pen-pointed = c.pen_pointed-p in (
      (byte-in args.s.now loop.i loop.h next-byte.ensures.1 c.in-One.is).0,
      far-one args.s.now args.at args.out.now args.column loop.n loop.k loop.ok loop.i loop.h loop.out loop.invariant.1 next-byte.result next-byte.ensures.0 c.in-One.is pen-pointed.ensures c.can_stand-ok.ensures,
    )
