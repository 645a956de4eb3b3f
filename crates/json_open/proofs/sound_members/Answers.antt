use native.Mathlib.Omega.{arith}
use Prim.Native.Nat.{◌+◌, ◌-◌, ◌≤◌, ◌<◌}
use mathlib.Core.Path.{refl, sym, ap, subst, ◌∙◌}
use mathlib.Core.List.{[]}
use lib.ListN.{length, drop}
use borrow.Rule.Slice.PartMut.{same_len_mid, take_put}
use Rattle.std.specs.Prelude.{Ok}
use Rattle.text.specs.Bytes.{parts}
use Rattle.text.proofs.Handed.{same-error}
use Rattle.text.proofs.Places.{turn-as}
use Rattle.json_text.specs.Syntax.{pairs, value}
use Rattle.json_sound.specs.Sound.{is_sound, sound_members}
use Rattle.json_sound.specs.Noted.{NotesIn}
use Rattle.json_sound.proofs.Judging.{judged-as, onward-as, onward-unsound}
use Rattle.json_sound.proofs.Walk.{members-none, members-begin, name-bad, name-rest, members-bad, members-rest, members-on, members-last}
use Rattle.json_index.proofs.Laws.{todo-first}
use Rattle.json_open.proofs.Laws.{member-on, member-last, pairs-none, pairs-some, indexed-as, indexed-sound}
use Rattle.json_open.proofs.sound_members.Goals as goal

pub returns-then-look-eq-RIGHT_BRACE-clause-judged :
    goal.returns-then-look-eq-RIGHT_BRACE-clause-judged
returns-then-look-eq-RIGHT_BRACE-clause-judged c =
    members-none c.args.depth c.args.s.now c.args.at _ c.skip_space-from.ensures _ c.look.ensures.0 c.if-look-eq-RIGHT_BRACE.true

pub returns-then-look-eq-RIGHT_BRACE-clause-indexed_if :
    goal.returns-then-look-eq-RIGHT_BRACE-clause-indexed_if
returns-then-look-eq-RIGHT_BRACE-clause-indexed_if c =
    pairs-none c.args.depth c.args.s.now c.args.at _ c.skip_space-from.ensures _ c.look.ensures.0 c.args.names.now c.args.slots.now c.if-look-eq-RIGHT_BRACE.true c.requires.clear

pub loop-v-init : goal.loop-v-init
loop-v-init c =
    let a = c.args in
    let k = c.skip_space-from.ensures in
    let s = a.s.now in
    let begun = members-begin a.depth s a.at _ k _ c.look.ensures.0 c.if-look-eq-RIGHT_BRACE.false a.places.now a.prints.now in
    let first = todo-first a.depth s c.skip_space-from.result a.names.now a.slots.now c.requires.clear in
    (omega (arith, k.from), k.to, refl, begun, refl, refl, first)

pub returns-in_err-v-clause-judged : goal.returns-in_err-v-clause-judged
returns-in_err-v-clause-judged c =
    let loop = c.loop-v in
    let s = c.args.s.now in
    let bad = name-bad c.args.depth s c.args.at loop.i loop.places loop.prints loop.k loop.invariant.3 c.note_name.new.places c.note_name.new.prints
    c.note_name.result c.note_name.ensures.notes _ c.in_err-v.was in
    judged-as s (pairs (value c.args.depth) (drop c.args.at s)) (sound_members []) bad
    (sym (same-error c.from_residual.result c.from_residual.ensures.1))

pub returns-in_err-e-in-Sound-clause-judged : goal.returns-in_err-e-in-Sound-clause-judged
returns-in_err-e-in-Sound-clause-judged c =
    let loop = c.loop-v in
    let s = c.args.s.now in
    let bad = members-bad c.args.depth s c.args.at loop.i loop.places loop.prints loop.k loop.invariant.3 c.note_name.new.places c.note_name.new.prints
    c.note_name.result c.note_name.ensures.notes _ (c.in_ok-v.was ∙ ap Ok c.in-Sound.is) c.in_err-e-in-Sound.field-0.0 c.in_err-e-in-Sound.ensures.judged in
    judged-as s (pairs (value c.args.depth) (drop c.args.at s)) (sound_members []) bad
    (sym (same-error c.from_residual-in_err-e-in-Sound.result c.from_residual-in_err-e-in-Sound.ensures.1))

pub loop-v-preserved : goal.loop-v-preserved
loop-v-preserved c =
    let a = c.args in
    let loop = c.loop-v in
    let s = a.s.now in
    let n = length s in
    let i = loop.i in
    let from = c.in-Sound.v in
    let ps = c.note_name.new.places in
    let fs = c.note_name.new.prints in
    let named = c.in_ok-v.was ∙ ap Ok c.in-Sound.is in
    let found = c.in_ok-e-in-Sound.was ∙ ap Ok c.in-Sound-2.is in
    let w = subst (NotesIn i n) named c.note_name.ensures.notes_in in
    let judged = judged-as s (value a.depth (drop from s)) is_sound c.sound_value.ensures.judged found in
    let o = onward-as from n c.sound_value.ensures.onward found in
    let h = turn-as c.separator.ensures c.in-Continue.is in
    let m = loop.k + 1 in
    let l : m ≤ length ps = omega (arith, loop.invariant.0, loop.invariant.1, loop.invariant.2, loop.invariant.4, c.requires.at_in_bounds, c.requires.s_len_bound, c.requires.s_len_bound_2, c.requires.prints_len, c.note_name.auto.places, c.note_name.auto.prints) in
    let l' : m ≤ length fs = omega (arith, loop.invariant.0, loop.invariant.1, loop.invariant.2, loop.invariant.4, c.requires.at_in_bounds, c.requires.s_len_bound, c.requires.s_len_bound_2, c.requires.prints_len, c.note_name.auto.places, c.note_name.auto.prints) in
    let room : length (parts 44 a.names.now) < length loop.slots = omega (arith, c.requires.names_in_bounds, loop.invariant.5) in
    let same = take_put m (length ps - m) ps c.sound_value.new.places l in
    let sp = c.skip_space-from in
    let same' = take_put m (length fs - m) fs c.sound_value.new.prints l' in (
      omega (arith, w.0, o.0, h.within.0, loop.invariant.0),
      h.within.1,
      same_len_mid m (length ps - m) ps c.sound_value.new.places c.sound_value.auto.places ∙ c.note_name.auto.places ∙ loop.invariant.2,
      members-on a.depth s a.at i loop.places loop.prints loop.k loop.invariant.3 ps fs c.note_name.result c.note_name.ensures.notes _ named _ judged _ h _ _ same same',
      same_len_mid m (length fs - m) fs c.sound_value.new.prints c.sound_value.auto.prints ∙ c.note_name.auto.prints ∙ loop.invariant.4,
      c.note_member.auto.slots ∙ loop.invariant.5,
      member-on a.depth s a.at i loop.places loop.prints loop.k loop.invariant.3 ps fs c.note_name.result c.note_name.ensures.notes _ named _ judged sp.result a.names.now loop.slots loop.invariant.6 room (omega (arith, w.0)) _ c.note_member.ensures _ h,
    )

pub returns-in-Break-clause-judged : goal.returns-in-Break-clause-judged
returns-in-Break-clause-judged c =
    let loop = c.loop-v in
    let s = c.args.s.now in
    let judged = judged-as s (value c.args.depth (drop c.in-Sound.v s)) is_sound c.sound_value.ensures.judged (c.in_ok-e-in-Sound.was ∙ ap Ok c.in-Sound-2.is) in
    let last = members-last c.args.depth s c.args.at loop.i loop.places loop.prints loop.k loop.invariant.3 c.note_name.new.places c.note_name.new.prints
    c.note_name.result c.note_name.ensures.notes _ (c.in_ok-v.was ∙ ap Ok c.in-Sound.is) _ judged _ (turn-as c.separator.ensures c.in-Break.is) in
    judged-as s (pairs (value c.args.depth) (drop c.args.at s)) (sound_members []) last (sym c.sound.ensures)

pub returns-in-Break-clause-indexed_if : goal.returns-in-Break-clause-indexed_if
returns-in-Break-clause-indexed_if c =
    let a = c.args in
    let loop = c.loop-v in
    let s = a.s.now in
    let n = length s in
    let named = c.in_ok-v.was ∙ ap Ok c.in-Sound.is in
    let w = subst (NotesIn loop.i n) named c.note_name.ensures.notes_in in
    let judged = judged-as s (value a.depth (drop c.in-Sound.v s)) is_sound c.sound_value.ensures.judged (c.in_ok-e-in-Sound.was ∙ ap Ok c.in-Sound-2.is) in
    let room : length (parts 44 a.names.now) < length loop.slots = omega (arith, c.requires.names_in_bounds, loop.invariant.5) in
    let sp = c.skip_space-from in
    let slots = c.note_member.new.slots in
    let all = member-last a.depth s a.at loop.i loop.places loop.prints loop.k loop.invariant.3 c.note_name.new.places c.note_name.new.prints
    c.note_name.result c.note_name.ensures.notes _ named _ judged sp.result a.names.now loop.slots loop.invariant.6 room (omega (arith, w.0)) slots c.note_member.ensures _
    (turn-as c.separator.ensures c.in-Break.is) in
    let indexed = pairs-some a.depth s a.at _ sp.ensures _ c.look.ensures.0 a.names.now slots c.if-look-eq-RIGHT_BRACE.false all in
    indexed-as a.depth s a.at a.names.now slots c.sound.ensures (indexed-sound a.depth s a.at a.names.now slots c.in-Break.r indexed)

pub returns-in-Unsound-2-clause-judged : goal.returns-in-Unsound-2-clause-judged
returns-in-Unsound-2-clause-judged c =
    let loop = c.loop-v in
    let s = c.args.s.now in
    let judged = judged-as s (value c.args.depth (drop c.in-Sound.v s)) is_sound c.sound_value.ensures.judged (c.in_ok-e-in-Sound.was ∙ ap Ok c.in-Unsound-2.is) in
    let rest = members-rest c.args.depth s c.args.at loop.i loop.places loop.prints loop.k loop.invariant.3 c.note_name.new.places c.note_name.new.prints
    c.note_name.result c.note_name.ensures.notes _ (c.in_ok-v.was ∙ ap Ok c.in-Sound.is) _ judged _ c.members_after.ensures in
    judged-as s (pairs (value c.args.depth) (drop c.args.at s)) (sound_members []) rest (sym c.unsound.ensures)

pub returns-in-Unsound-clause-judged : goal.returns-in-Unsound-clause-judged
returns-in-Unsound-clause-judged c =
    let loop = c.loop-v in
    let s = c.args.s.now in
    let rest = name-rest c.args.depth s c.args.at loop.i loop.places loop.prints loop.k loop.invariant.3 c.note_name.new.places c.note_name.new.prints
    c.note_name.result c.note_name.ensures.notes _ (c.in_ok-v.was ∙ ap Ok c.in-Unsound.is) _ c.members_after_name.ensures in
    judged-as s (pairs (value c.args.depth) (drop c.args.at s)) (sound_members []) rest (sym c.unsound-in-Unsound.ensures)

pub returns-in-Unsound-clause-onward : goal.returns-in-Unsound-clause-onward
returns-in-Unsound-clause-onward c =
    let loop = c.loop-v in
    let n = length c.args.s.now in
    let w = subst (NotesIn loop.i n) (c.in_ok-v.was ∙ ap Ok c.in-Unsound.is) c.note_name.ensures.notes_in in
    let rest = c.members_after_name in
    let bounds = onward-unsound c.args.at c.in-Unsound.v n rest.result (omega (arith, w.0, loop.invariant.0)) (rest.ensures []).within in
    onward-as c.args.at n bounds (sym c.unsound-in-Unsound.ensures)
