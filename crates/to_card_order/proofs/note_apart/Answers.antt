use native.Mathlib.Omega.{arith}
use mathlib.Core.Path.{refl, ◌∙◌}
use Prim.Native.Nat.{◌-◌}
use Rattle.text.proofs.Places.{turn-as}
use Rattle.to_card_parts.proofs.Passes.{ended-found, ended-in}
use Rattle.to_card_order.proofs.Noted.{noting-first, notes-wrong, noting-on, notes-all}
use Rattle.to_card_order.proofs.note_apart.Goals as goal

pub loop-part-init : goal.loop-part-init
loop-part-init c =
    let args = c.args in
    (c.requires.at_in_bounds, omega arith, refl, refl, noting-first args.s.now args.at args.one args.other args.places.now args.prints.now)

pub component_to_end-requires : goal.component_to_end-requires
component_to_end-requires c = c.loop-part.invariant.0

pub shape_of-places-in_default : goal.shape_of-places-in_default
shape_of-places-in_default c = c.loop-part.invariant.2

pub shape_of-prints-in_default : goal.shape_of-prints-in_default
shape_of-prints-in_default c = c.loop-part.invariant.3

pub returns-in_default : goal.returns-in_default
returns-in_default c =
    let args = c.args in
    let loop = c.loop-part in
    notes-wrong args.s.now args.at args.one args.other loop.i loop.places loop.prints loop.n loop.ok loop.invariant.4 _ c.component_to_end.ensures.tells_component (ended-found c.in_default.is)

pub note_value-t-requires : goal.note_value-t-requires
note_value-t-requires c =
    let loop = c.loop-part in
    record {
      at_in_bounds = c.requires.at_in_bounds;
      in_bounds = omega (arith, loop.invariant.2, c.requires.in_bounds);
      in_bounds_2 = omega (arith, loop.invariant.3, c.requires.in_bounds_2);
      count_bound = loop.invariant.1;
    }

pub separator-requires : goal.separator-requires
separator-requires c =
    let args = c.args in
    let loop = c.loop-part in
    record { at_in_bounds = (ended-in args.s.now loop.i c.component_to_end.ensures.end_in c.in-Ok.is).within; close_bound = omega arith }

pub loop-part-smaller : goal.loop-part-smaller
loop-part-smaller c =
    let separator = c.separator in
    let args = c.args in
    let loop = c.loop-part in
    let h = turn-as separator.ensures c.in-Continue.is in
    omega (arith, h.within.0, h.within.1, (ended-in args.s.now loop.i c.component_to_end.ensures.end_in c.in-Ok.is).from)

pub loop-part-preserved : goal.loop-part-preserved
loop-part-preserved c =
    let separator = c.separator in
    let note-value = c.note_value-t in
    let loop = c.loop-part in
    let args = c.args in
    let h = turn-as separator.ensures c.in-Continue.is in
    let note = note-value.ensures in (
      h.within.1,
      note.few,
      note.long-places ∙ loop.invariant.2,
      note.long-prints ∙ loop.invariant.3,
      noting-on args.s.now args.at args.one args.other loop.i loop.places
          loop.prints loop.n loop.ok loop.invariant.4 _ c.component_to_end.ensures.tells_component _ _ (ended-found c.in-Ok.is) _ _ note-value.result note-value.ensures _
          (ended-in args.s.now loop.i c.component_to_end.ensures.end_in c.in-Ok.is).ends _ h,
    )

pub none_met-requires : goal.none_met-requires
none_met-requires c =
    let note-value = c.note_value-t in
    let loop = c.loop-part in
    let note = note-value.ensures in
    record {
      at_in_bounds = c.requires.at_in_bounds;
      count_in_bounds = omega (arith, note.few, note.long-places, loop.invariant.2, c.requires.in_bounds);
      count_in_bounds_2 = omega (arith, note.few, note.long-prints, loop.invariant.3, c.requires.in_bounds_2);
    }

pub shape_of-places-in-Break : goal.shape_of-places-in-Break
shape_of-places-in-Break c =
    let note-value = c.note_value-t in
    let loop = c.loop-part in
    note-value.ensures.long-places ∙ loop.invariant.2

pub shape_of-prints-in-Break : goal.shape_of-prints-in-Break
shape_of-prints-in-Break c =
    let note-value = c.note_value-t in
    let loop = c.loop-part in
    note-value.ensures.long-prints ∙ loop.invariant.3

pub returns-in-Break : goal.returns-in-Break
returns-in-Break c =
    let args = c.args in
    let loop = c.loop-part in
    let note-value = c.note_value-t in
    let separator = c.separator in
    notes-all args.s.now args.at args.one args.other loop.i loop.places loop.prints loop.n loop.ok loop.invariant.4 _ c.component_to_end.ensures.tells_component _ _
    (ended-found c.in-Ok.is) _ _ note-value.result note-value.ensures _ (ended-in args.s.now loop.i c.component_to_end.ensures.end_in c.in-Ok.is).ends _
    (turn-as separator.ensures c.in-Break.is) c.none_met.result c.none_met.ensures
