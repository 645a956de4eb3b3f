use Rattle.text.specs.Bytes.{parts}
use Rattle.json_strings.specs.Decoded.{decoded_at}
use Rattle.json_access.specs.declared.Places.{Places}
use native.Mathlib.Omega.{arith}
use mathlib.Core.Path.{refl, ap, ◌∙◌}
use Prim.Native.Nat.{◌<◌}
use lib.ListN.{length}
use Rattle.text.proofs.Places.{turn-as}
use Rattle.json_index.proofs.Names.{placed-le}
use Rattle.json_index.proofs.Slots.{length-noted}
use Rattle.json_index.proofs.Laws.{rest-on, rest-last, place-within, todo-first, todo-on, todo-last}
use Rattle.json_index.proofs.index_from.Goals as goal

pub loop-j-init : goal.loop-j-init
loop-j-init c =
    let a = c.args in
    (c.requires.at_in_bounds, omega arith, refl, todo-first a.depth a.s.now a.at a.names.now a.slots.now c.requires.clear, λ us t e. (us, e))

pub member_called-m-requires : goal.member_called-m-requires
member_called-m-requires c = c.loop-j.invariant.0

pub note-requires : goal.note-requires
note-requires c =
    let a = c.args in
    omega (arith, placed-le (decoded_at a.s.now c.member_called-m.ensures.lists.0) (parts 44 a.names.now), c.member_called-m.ensures.lists.2, c.requires.names_in_bounds, c.loop-j.invariant.2)

pub separator-requires : goal.separator-requires
separator-requires c = record { at_in_bounds = c.member_called-m.ensures.inside.end-in; close_bound = omega arith }

pub loop-j-smaller : goal.loop-j-smaller
loop-j-smaller c =
    let h = turn-as c.separator.ensures c.in-Continue.is in
    omega (arith, h.within.0, h.within.1, c.member_called-m.ensures.inside.from c.loop-j.invariant.0, c.member_called-m.ensures.inside.ordered)

pub loop-j-preserved : goal.loop-j-preserved
loop-j-preserved c =
    let a = c.args in
    let l = c.loop-j in
    let listed = c.member_called-m.ensures.lists in
    let places : Places = record { name = listed.0; start = c.member_called-m.result.start; end = c.member_called-m.result.end } in
    let h = turn-as c.separator.ensures c.in-Continue.is in
    let p = placed-le (decoded_at a.s.now listed.0) (parts 44 a.names.now) in
    let in-k : c.member_called-m.result.number < length l.slots = omega (arith, p, listed.2, c.requires.names_in_bounds, l.invariant.2) in
    let not-0 : 0 < c.member_called-m.result.start = omega (arith, c.requires.at_nonzero, l.invariant.1, c.member_called-m.ensures.inside.from l.invariant.0) in
    let noted = c.note.ensures in (
      h.within.1,
      omega (arith, h.within.0, l.invariant.1, c.member_called-m.ensures.inside.from l.invariant.0, c.member_called-m.ensures.inside.ordered),
      ap length noted ∙ length-noted l.slots c.member_called-m.result.number c.member_called-m.result.start ∙ l.invariant.2,
      todo-on a.depth a.s.now a.at a.names.now l.slots l.i l.invariant.3 places listed.1 c.member_called-m.result.number listed.2 in-k not-0 _ noted _ h,
      rest-on a.depth a.s.now a.at l.i l.invariant.4 places listed.1 _ h,
    )

pub shape_of-slots-in-Break : goal.shape_of-slots-in-Break
shape_of-slots-in-Break c =
    let l = c.loop-j in
    let m = c.member_called-m.result in
    ap length c.note.ensures ∙ length-noted l.slots m.number m.start ∙ l.invariant.2

pub returns-in-Break : goal.returns-in-Break
returns-in-Break c =
    let a = c.args in
    let l = c.loop-j in
    let listed = c.member_called-m.ensures.lists in
    let places : Places = record { name = listed.0; start = c.member_called-m.result.start; end = c.member_called-m.result.end } in
    let h = turn-as c.separator.ensures c.in-Break.is in
    let p = placed-le (decoded_at a.s.now listed.0) (parts 44 a.names.now) in
    let in-k : c.member_called-m.result.number < length l.slots = omega (arith, p, listed.2, c.requires.names_in_bounds, l.invariant.2) in
    let not-0 : 0 < c.member_called-m.result.start = omega (arith, c.requires.at_nonzero, l.invariant.1, c.member_called-m.ensures.inside.from l.invariant.0) in
    let q = c.place.ensures in
    let w = place-within h _ q in record {
      lower_bound = (omega (arith, w.0, l.invariant.1, c.member_called-m.ensures.inside.from l.invariant.0, c.member_called-m.ensures.inside.ordered), w.1);
      ends_from = rest-last a.depth a.s.now a.at l.i l.invariant.4 places listed.1 _ h _ q;
      indexes_from = todo-last a.depth a.s.now a.at a.names.now l.slots l.i l.invariant.3 places listed.1 c.member_called-m.result.number listed.2 in-k not-0 _ c.note.ensures _ h;
    }
