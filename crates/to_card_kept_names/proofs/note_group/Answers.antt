use native.Mathlib.Omega.{arith}
use Rattle.std.specs.Prelude.{Some}
use Rattle.to_card_kept_names.proofs.Groups.{notes-last, notes-empty, notes-slot}
use Rattle.to_card_kept_names.proofs.note_group.Goals as goal

pub returns-then-i-eq-POINTERS : goal.returns-then-i-eq-POINTERS
returns-then-i-eq-POINTERS c =
    let args = c.args in
    let if1 = c.if-i-eq-POINTERS in
    record { noted_in = c.note_names.ensures.noted_in; notes_group = notes-last args.s.now args.slots.now args.i c.note_names.result _ _ if1.true c.note_names.ensures.notes_names }

pub returns-then-at-eq0 : goal.returns-then-at-eq0
returns-then-at-eq0 c =
    let args = c.args in
    let if1 = c.if-i-eq-POINTERS in
    record { noted_in = omega arith; notes_group = notes-empty args.s.now args.slots.now args.i (Some 0) args.places.now args.prints.now if1.false c.if-at-eq0.true }

pub returns : goal.returns
returns c =
    let args = c.args in
    let if1 = c.if-i-eq-POINTERS in
    let if2 = c.if-at-eq0 in
    record {
      noted_in = c.note_names-2.ensures.noted_in;
      notes_group = notes-slot args.s.now args.slots.now args.i c.note_names-2.result _ _ if1.false if2.false c.note_names-2.ensures.notes_names;
    }
