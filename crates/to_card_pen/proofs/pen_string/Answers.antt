use native.Mathlib.Omega.{arith}
use native.Mathlib.Nat.{le_refl}
use Rattle.json_strings.proofs.Laws.{decoded-past}
use Rattle.json_strings.proofs.NextByte.{byte-in}
use Rattle.line_pen.proofs.Laws.{pens-in, pens-length, pens-then}
use Rattle.to_card_pen.proofs.Strings.{Turn, turn!, far-first, writes-none, far-alone, far-end, far-one}
use Rattle.to_card_pen.proofs.Plain.{run-weight, far-run, in_whole, byte-whole}
use Rattle.to_card_pen.proofs.pen_string.Goals as goal
use Rattle.to_card_pen.proofs.pen_string.Goals.{After-struct_known-1}

-- after a run
abbrev ran : (c : After-struct_known-1) → Turn
ran c =
    let e = c.plain_end-e in
    turn! (far-run c.loop-b.invariant.1 e.result e.ensures.0 e.ensures.1 e.ensures.2 c.pen_bytes-w.ensures)

pub returns-then-at-s : goal.returns-then-at-s
returns-then-at-s c =
    let a = c.args in
    writes-none a.s.now a.at a.style _ a.column (decoded-past a.s.now a.at c.if-at-s.true)

pub loop-b-init : goal.loop-b-init
loop-b-init c =
    let a = c.args in
    (c.if-at-s.false, far-first a.s.now a.at a.style a.out.now a.column)

pub plain_end-e-requires : goal.plain_end-e-requires
plain_end-e-requires c = c.loop-b.invariant.0

pub slice_bounds-pen_bytes-count : goal.slice_bounds-pen_bytes-count
slice_bounds-pen_bytes-count c = let f = c.loop-b.invariant.1 in omega (arith, pens-in f.pens, pens-length f.pens)

pub slice_bounds-pen_bytes-start : goal.slice_bounds-pen_bytes-start
slice_bounds-pen_bytes-start c = let f = c.loop-b.invariant.1 in omega (arith, pens-in f.pens, pens-length f.pens)

pub slice_bounds-pen_bytes-end : goal.slice_bounds-pen_bytes-end
slice_bounds-pen_bytes-end c = le_refl _

pub slice_bounds-pen_bytes-count-in-loop-b : goal.slice_bounds-pen_bytes-count-in-loop-b
slice_bounds-pen_bytes-count-in-loop-b c = c.plain_end-e.ensures.0

pub slice_bounds-pen_bytes-start-in-loop-b : goal.slice_bounds-pen_bytes-start-in-loop-b
slice_bounds-pen_bytes-start-in-loop-b c = c.plain_end-e.ensures.0

pub slice_bounds-pen_bytes-end-in-loop-b : goal.slice_bounds-pen_bytes-end-in-loop-b
slice_bounds-pen_bytes-end-in-loop-b c = c.plain_end-e.ensures.1

pub overflow_add-n : goal.overflow_add-n
overflow_add-n c = record { fits = omega (arith, pens-in (ran c).so.pens, c.well_formed.0.0) }

pub byte_at-requires : goal.byte_at-requires
byte_at-requires c =
    in_whole c.args.s.now c.plain_end-e.ensures.1

pub shape_of-out-in-Alone : goal.shape_of-out-in-Alone
shape_of-out-in-Alone c = pens-length (ran (goal.at.shape_of-out-in-Alone c).After-struct_known-1).so.pens

pub returns-in-Alone : goal.returns-in-Alone
returns-in-Alone c =
    let t = ran (goal.at.returns-in-Alone c).After-struct_known-1 in
    let b = c.byte_at in
    far-alone t.so b.result (byte-whole t.s t.i t.h b.result b.ensures).0 c.in-Alone.is

pub shape_of-out-in-End : goal.shape_of-out-in-End
shape_of-out-in-End c = pens-length (ran (goal.at.shape_of-out-in-End c).After-struct_known-1).so.pens

pub returns-in-End : goal.returns-in-End
returns-in-End c =
    let t = ran (goal.at.returns-in-End c).After-struct_known-1 in
    let b = c.byte_at in
    far-end t.so b.result (byte-whole t.s t.i t.h b.result b.ensures).0 c.in-End.is

pub slice_bounds-pen_in-count : goal.slice_bounds-pen_in-count
slice_bounds-pen_in-count c = let f = (ran (goal.at.slice_bounds-pen_in-count c).After-struct_known-1).so in omega (arith, pens-in f.pens, pens-length f.pens)

pub slice_bounds-pen_in-start : goal.slice_bounds-pen_in-start
slice_bounds-pen_in-start c = let f = (ran (goal.at.slice_bounds-pen_in-start c).After-struct_known-1).so in omega (arith, pens-in f.pens, pens-length f.pens)

pub slice_bounds-pen_in-end : goal.slice_bounds-pen_in-end
slice_bounds-pen_in-end c = le_refl _

pub overflow_add-n-in-One : goal.overflow_add-n-in-One
overflow_add-n-in-One c =
    let g = c.well_formed in
    record { fits = omega (arith, pens-in (pens-then (ran (goal.at.overflow_add-n-in-One c).After-struct_known-1).so.pens c.pen_in-p.ensures), g.0.0) }

pub loop-b-smaller : goal.loop-b-smaller
loop-b-smaller c =
    let t = ran (goal.at.loop-b-smaller c).After-struct_known-1 in
    let told = byte-whole t.s t.i t.h c.byte_at.result c.byte_at.ensures in
    let w = byte-in t.s t.i t.h told.1 c.in-One.is in
    omega (arith, w.1, run-weight t.s t.h c.loop-b.i t.i c.plain_end-e.ensures.0)

pub loop-b-preserved : goal.loop-b-preserved
loop-b-preserved c =
    let t = ran (goal.at.loop-b-preserved c).After-struct_known-1 in
    let told = byte-whole t.s t.i t.h c.byte_at.result c.byte_at.ensures in
    let o = c.in-One.is in
    let w = byte-in t.s t.i t.h told.1 o in
    (w.0, far-one t.so c.byte_at.result told.0 o c.pen_in-p.ensures c.can_stand-ok.ensures)
