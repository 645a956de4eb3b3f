use native.Mathlib.Omega.{arith}
use Prim.Native.Nat.{◌+◌, ◌-◌, ◌≤◌}
use mathlib.Core.Path.{refl, sym, ap, subst, ◌∙◌}
use mathlib.Core.List.{[]}
use lib.ListN.{length, drop}
use borrow.Rule.Slice.PartMut.{same_len_mid, take_put}
use Rattle.std.specs.Prelude.{Ok}
use Rattle.text.proofs.Handed.{same-error}
use Rattle.text.proofs.Places.{turn-as}
use Rattle.json_text.specs.Syntax.{elements, pairs, scalar, value}
use Rattle.json_text.proofs.Fine.{scalar-fine}
use Rattle.json_scan.proofs.First.{scalar-in}
use Rattle.json_sound.specs.Sound.{is_sound, sound_elems, sound_members}
use Rattle.json_sound.specs.Noted.{NotesIn}
use Rattle.json_sound.proofs.Judging.{judged-as, onward-as, onward-up, onward-unsound, onward-fine}
use Rattle.json_sound.proofs.Walk.{elems-none, elems-begin, elems-bad, elems-rest, elems-on, elems-last}
use Rattle.json_sound.proofs.Walk.{members-none, members-begin, name-bad, name-rest, members-bad, members-rest, members-on, members-last}
use Rattle.json_sound.proofs.Values.{string-in, judges-string, judges-flat, judges-scalar, judges-array, judges-object}
use Rattle.json_sound.proofs.+sound_array_sound_object_sound_value.Goals as goal

pub sound_array-returns-then-look-eq-RIGHT_BRACKET-clause-judged :
    goal.sound_array-returns-then-look-eq-RIGHT_BRACKET-clause-judged
sound_array-returns-then-look-eq-RIGHT_BRACKET-clause-judged t c =
    elems-none c.args.depth c.args.s.now c.args.at _ c.skip_space-from.ensures _ c.look.ensures.0 c.if-look-eq-RIGHT_BRACKET.true

pub sound_array-loop-e-init : goal.sound_array-loop-e-init
sound_array-loop-e-init t c =
    let space = c.skip_space-from.ensures in
    let begun = elems-begin c.args.depth c.args.s.now c.args.at _ space _ c.look.ensures.0 c.if-look-eq-RIGHT_BRACKET.false in
    (space.from, space.to, refl, begun, refl)

pub sound_array-returns-in_err-e-clause-judged : goal.sound_array-returns-in_err-e-clause-judged
sound_array-returns-in_err-e-clause-judged t c =
    let loop = c.loop-e in
    let bad = elems-bad c.args.depth c.args.s.now c.args.at loop.i loop.invariant.3 c.in_err-e.field-0.0 c.in_err-e.ensures.judged in
    judged-as c.args.s.now (elements (value c.args.depth) (drop c.args.at c.args.s.now)) sound_elems bad
    (sym (same-error c.from_residual.result c.from_residual.ensures.1))

pub sound_array-loop-e-preserved : goal.sound_array-loop-e-preserved
sound_array-loop-e-preserved t c =
    let loop = c.loop-e in
    let s = c.args.s.now in
    let found = c.in_ok-e.was ∙ ap Ok c.in-Sound.is in
    let judged = judged-as s (value c.args.depth (drop loop.i s)) is_sound c.sound_value.ensures.judged found in
    let o = onward-as loop.i (length s) c.sound_value.ensures.onward found in
    let h = turn-as c.separator.ensures c.in-Continue.is in (
      omega (arith, o.0, h.within.0, loop.invariant.0),
      h.within.1,
      c.sound_value.auto.places ∙ loop.invariant.2,
      elems-on c.args.depth s c.args.at loop.i loop.invariant.3 _ judged _ h,
      c.sound_value.auto.prints ∙ loop.invariant.4,
    )

pub sound_array-returns-in-Break-clause-judged : goal.sound_array-returns-in-Break-clause-judged
sound_array-returns-in-Break-clause-judged t c =
    let loop = c.loop-e in
    let s = c.args.s.now in
    let judged = judged-as s (value c.args.depth (drop loop.i s)) is_sound c.sound_value.ensures.judged (c.in_ok-e.was ∙ ap Ok c.in-Sound.is) in
    let last = elems-last c.args.depth s c.args.at loop.i loop.invariant.3 _ judged _ (turn-as c.separator.ensures c.in-Break.is) in
    judged-as s (elements (value c.args.depth) (drop c.args.at s)) sound_elems last (sym c.sound.ensures)

pub sound_array-returns-in-Unsound-clause-judged :
    goal.sound_array-returns-in-Unsound-clause-judged
sound_array-returns-in-Unsound-clause-judged t c =
    let loop = c.loop-e in
    let s = c.args.s.now in
    let judged = judged-as s (value c.args.depth (drop loop.i s)) is_sound c.sound_value.ensures.judged (c.in_ok-e.was ∙ ap Ok c.in-Unsound.is) in
    let rest = elems-rest c.args.depth s c.args.at loop.i loop.invariant.3 _ judged _ c.elements_after.ensures in
    judged-as s (elements (value c.args.depth) (drop c.args.at s)) sound_elems rest (sym c.unsound.ensures)

pub sound_object-returns-then-look-eq-RIGHT_BRACE-clause-judged :
    goal.sound_object-returns-then-look-eq-RIGHT_BRACE-clause-judged
sound_object-returns-then-look-eq-RIGHT_BRACE-clause-judged t c =
    members-none c.args.depth c.args.s.now c.args.at _ c.skip_space-from.ensures _ c.look.ensures.0 c.if-look-eq-RIGHT_BRACE.true

pub sound_object-loop-v-init : goal.sound_object-loop-v-init
sound_object-loop-v-init t c =
    let space = c.skip_space-from.ensures in
    let begun = members-begin c.args.depth c.args.s.now c.args.at _ space _ c.look.ensures.0 c.if-look-eq-RIGHT_BRACE.false c.args.places.now c.args.prints.now in
    (omega (arith, space.from), space.to, refl, begun, refl)

pub sound_object-returns-in_err-v-clause-judged : goal.sound_object-returns-in_err-v-clause-judged
sound_object-returns-in_err-v-clause-judged t c =
    let loop = c.loop-v in
    let s = c.args.s.now in
    let bad = name-bad c.args.depth s c.args.at loop.i loop.places loop.prints loop.k loop.invariant.3 c.note_name.new.places c.note_name.new.prints
    c.note_name.result c.note_name.ensures.notes _ c.in_err-v.was in
    judged-as s (pairs (value c.args.depth) (drop c.args.at s)) (sound_members []) bad
    (sym (same-error c.from_residual.result c.from_residual.ensures.1))

pub sound_object-returns-in_err-e-in-Sound-clause-judged :
    goal.sound_object-returns-in_err-e-in-Sound-clause-judged
sound_object-returns-in_err-e-in-Sound-clause-judged t c =
    let loop = c.loop-v in
    let s = c.args.s.now in
    let told = judged-as s (value c.args.depth (drop c.in-Sound.v s)) is_sound c.sound_value-told.ensures.judged c.in_err-e-in-Sound.was in
    let bad = members-bad c.args.depth s c.args.at loop.i loop.places loop.prints loop.k loop.invariant.3 c.note_name.new.places c.note_name.new.prints
    c.note_name.result c.note_name.ensures.notes _ (c.in_ok-v.was ∙ ap Ok c.in-Sound.is) c.in_err-e-in-Sound.field-0.0 told in
    judged-as s (pairs (value c.args.depth) (drop c.args.at s)) (sound_members []) bad
    (sym (same-error c.from_residual-in_err-e-in-Sound.result c.from_residual-in_err-e-in-Sound.ensures.1))

pub sound_object-loop-v-preserved : goal.sound_object-loop-v-preserved
sound_object-loop-v-preserved t c =
    let loop = c.loop-v in
    let s = c.args.s.now in
    let n = length s in
    let from = c.in-Sound.v in
    let ps = c.note_name.new.places in
    let fs = c.note_name.new.prints in
    let m = loop.k + 1 in
    let named = c.in_ok-v.was ∙ ap Ok c.in-Sound.is in
    let found = c.in_ok-e-in-Sound.was ∙ ap Ok c.in-Sound-2.is in
    let w = subst (NotesIn loop.i n) named c.note_name.ensures.notes_in in
    let judged = judged-as s (value c.args.depth (drop from s)) is_sound c.sound_value-told.ensures.judged found in
    let o = onward-as from n c.sound_value-told.ensures.onward found in
    let h = turn-as c.separator.ensures c.in-Continue.is in
    let l : m ≤ length ps = omega (arith, loop.invariant.0, loop.invariant.1, loop.invariant.2, loop.invariant.4, c.requires.at_in_bounds, c.requires.s_len_bound, c.requires.s_len_bound_2, c.requires.prints_len, c.note_name.auto.places, c.note_name.auto.prints) in
    let l' : m ≤ length fs = omega (arith, loop.invariant.0, loop.invariant.1, loop.invariant.2, loop.invariant.4, c.requires.at_in_bounds, c.requires.s_len_bound, c.requires.s_len_bound_2, c.requires.prints_len, c.note_name.auto.places, c.note_name.auto.prints) in
    let same = take_put m (length ps - m) ps c.sound_value-told.new.places l in
    let same' = take_put m (length fs - m) fs c.sound_value-told.new.prints l' in (
      omega (arith, w.0, o.0, h.within.0, loop.invariant.0),
      h.within.1,
      same_len_mid m (length ps - m) ps c.sound_value-told.new.places c.sound_value-told.auto.places ∙ c.note_name.auto.places ∙ loop.invariant.2,
      members-on c.args.depth s c.args.at loop.i loop.places loop.prints loop.k loop.invariant.3 ps fs c.note_name.result c.note_name.ensures.notes _ named _ judged _ h _ _ same same',
      same_len_mid m (length fs - m) fs c.sound_value-told.new.prints c.sound_value-told.auto.prints ∙ c.note_name.auto.prints ∙ loop.invariant.4,
    )

pub sound_object-returns-in-Break-clause-judged : goal.sound_object-returns-in-Break-clause-judged
sound_object-returns-in-Break-clause-judged t c =
    let loop = c.loop-v in
    let s = c.args.s.now in
    let judged = judged-as s (value c.args.depth (drop c.in-Sound.v s)) is_sound c.sound_value-told.ensures.judged (c.in_ok-e-in-Sound.was ∙ ap Ok c.in-Sound-2.is) in
    let last = members-last c.args.depth s c.args.at loop.i loop.places loop.prints loop.k loop.invariant.3 c.note_name.new.places c.note_name.new.prints
    c.note_name.result c.note_name.ensures.notes _ (c.in_ok-v.was ∙ ap Ok c.in-Sound.is) _ judged _ (turn-as c.separator.ensures c.in-Break.is) in
    judged-as s (pairs (value c.args.depth) (drop c.args.at s)) (sound_members []) last (sym c.sound.ensures)

pub sound_object-returns-in-Unsound-2-clause-judged : goal.sound_object-returns-in-Unsound-2-clause-judged
sound_object-returns-in-Unsound-2-clause-judged t c =
    let loop = c.loop-v in
    let s = c.args.s.now in
    let judged = judged-as s (value c.args.depth (drop c.in-Sound.v s)) is_sound c.sound_value-told.ensures.judged (c.in_ok-e-in-Sound.was ∙ ap Ok c.in-Unsound-2.is) in
    let rest = members-rest c.args.depth s c.args.at loop.i loop.places loop.prints loop.k loop.invariant.3 c.note_name.new.places c.note_name.new.prints
    c.note_name.result c.note_name.ensures.notes _ (c.in_ok-v.was ∙ ap Ok c.in-Sound.is) _ judged _ c.members_after.ensures in
    judged-as s (pairs (value c.args.depth) (drop c.args.at s)) (sound_members []) rest (sym c.unsound.ensures)

pub sound_object-returns-in-Unsound-clause-judged :
    goal.sound_object-returns-in-Unsound-clause-judged
sound_object-returns-in-Unsound-clause-judged t c =
    let loop = c.loop-v in
    let s = c.args.s.now in
    let rest = name-rest c.args.depth s c.args.at loop.i loop.places loop.prints loop.k loop.invariant.3 c.note_name.new.places c.note_name.new.prints
    c.note_name.result c.note_name.ensures.notes _ (c.in_ok-v.was ∙ ap Ok c.in-Unsound.is) _ c.members_after_name.ensures in
    judged-as s (pairs (value c.args.depth) (drop c.args.at s)) (sound_members []) rest (sym c.unsound-in-Unsound.ensures)

pub sound_object-returns-in-Unsound-clause-onward :
    goal.sound_object-returns-in-Unsound-clause-onward
sound_object-returns-in-Unsound-clause-onward t c =
    let loop = c.loop-v in
    let n = length c.args.s.now in
    let w = subst (NotesIn loop.i n) (c.in_ok-v.was ∙ ap Ok c.in-Unsound.is) c.note_name.ensures.notes_in in
    let rest = c.members_after_name in
    let bounds = onward-unsound c.args.at c.in-Unsound.v n rest.result (omega (arith, w.0, loop.invariant.0)) (rest.ensures []).within in
    onward-as c.args.at n bounds (sym c.unsound-in-Unsound.ensures)

pub sound_value-returns-then-b-eq-QUOTE-clause-judged :
    goal.sound_value-returns-then-b-eq-QUOTE-clause-judged
sound_value-returns-then-b-eq-QUOTE-clause-judged t c =
    let space = c.skip_space-i in
    let string = c.sound_string in
    let h = string-in c.args.s.now (space.result + 1) string.result (string.ensures.judged, string.ensures.onward) in
    judges-string c.args.s.now space.result c.look-b.result c.look-b.ensures.0 c.args.at space.ensures c.args.depth c.if-b-eq-QUOTE.true string.result h.0

pub sound_value-returns-then-depth-eq0-clause-judged :
    goal.sound_value-returns-then-depth-eq0-clause-judged
sound_value-returns-then-depth-eq0-clause-judged t c =
    let space = c.skip_space-i in
    let s = c.args.s.now in
    let g = scalar-in s space.result c.scalar_end.ensures in
    let judged = judges-flat s space.result c.look-b.result c.look-b.ensures.0 c.args.at space.ensures c.args.depth c.if-depth-eq0.true c.if-b-eq-QUOTE.false _ g in
    judged-as s (value c.args.depth (drop c.args.at s)) is_sound judged (sym c.sound.ensures)

pub sound_value-returns-then-depth-eq0-clause-onward :
    goal.sound_value-returns-then-depth-eq0-clause-onward
sound_value-returns-then-depth-eq0-clause-onward t c =
    let space = c.skip_space-i in
    let s = c.args.s.now in
    let i = space.result in
    let bounds = onward-fine scalar scalar-fine s i space.ensures.to _ (scalar-in s i c.scalar_end.ensures) in
    onward-up c.args.at i (length s) c.sound.result space.ensures.from (onward-as i (length s) bounds (sym c.sound.ensures))

pub sound_value-returns-then-b-eq-LEFT_BRACKET-clause-judged :
    goal.sound_value-returns-then-b-eq-LEFT_BRACKET-clause-judged
sound_value-returns-then-b-eq-LEFT_BRACKET-clause-judged t c =
    let space = c.skip_space-i in
    judges-array c.args.s.now space.result c.look-b.result c.look-b.ensures.0 c.args.at space.ensures c.args.depth c.if-depth-eq0.false c.if-b-eq-LEFT_BRACKET.true
    c.sound_array.result c.sound_array.ensures.judged

pub sound_value-returns-then-b-eq-LEFT_BRACE-clause-judged :
    goal.sound_value-returns-then-b-eq-LEFT_BRACE-clause-judged
sound_value-returns-then-b-eq-LEFT_BRACE-clause-judged t c =
    let space = c.skip_space-i in
    judges-object c.args.s.now space.result c.look-b.result c.look-b.ensures.0 c.args.at space.ensures c.args.depth c.if-depth-eq0.false c.if-b-eq-LEFT_BRACKET.false
    c.if-b-eq-LEFT_BRACE.true c.sound_object.result c.sound_object.ensures.judged

pub sound_value-returns-clause-judged : goal.sound_value-returns-clause-judged
sound_value-returns-clause-judged t c =
    let space = c.skip_space-i in
    let s = c.args.s.now in
    let g = scalar-in s space.result c.scalar_end-2.ensures in
    let judged = judges-scalar s space.result c.look-b.result c.look-b.ensures.0 c.args.at space.ensures c.args.depth c.if-b-eq-QUOTE.false c.if-b-eq-LEFT_BRACKET.false
    c.if-b-eq-LEFT_BRACE.false _ g in
    judged-as s (value c.args.depth (drop c.args.at s)) is_sound judged (sym c.sound-2.ensures)

pub sound_value-returns-clause-onward : goal.sound_value-returns-clause-onward
sound_value-returns-clause-onward t c =
    let space = c.skip_space-i in
    let s = c.args.s.now in
    let i = space.result in
    let bounds = onward-fine scalar scalar-fine s i space.ensures.to _ (scalar-in s i c.scalar_end-2.ensures) in
    onward-up c.args.at i (length s) c.sound-2.result space.ensures.from (onward-as i (length s) bounds (sym c.sound-2.ensures))
