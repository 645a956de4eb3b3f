-- What each line of a card becomes, and that it is new.
use mathlib.Core.Path.{◌≡◌, ap}
use mathlib.Core.Bool.{true, false, ◌&&◌, ◌||◌, not}
use mathlib.Core.Option.{some}
use Rattle.text.specs.Bytes.{ascii, any, all, empty, same, among, lowered}
use Rattle.text.specs.Utf8.{utf8}
use Rattle.text.proofs.Cases.{and-true, or_left, or_right, not-false}
use Rattle.json_text.specs.Tree.{member}
use Rattle.line.specs.Class.{is_name}
use Rattle.line.specs.Grammar.{param_values, Line}
use Rattle.line.specs.Params.{named, lacking, besides_value}
use Rattle.convert.specs.Table.{Map, maps}
use Rattle.convert.specs.Model.{has_parts}
use Rattle.convert.specs.Value.{filled}
use Rattle.convert.specs.Carry.{carried_raw, carried_param}
use Rattle.convert.specs.Classify.{Class, as-version, as-uid, as-kind, as_dropped, as-full, as_parts, as-entry, as_member, as-kept, is_id, Seen, classify}
use Rattle.convert.specs.FromCard.{kept_line}
use Rattle.convert.specs.FromJson.{is_lower_word, never_kept}
use Rattle.convert.specs.Answers.{is_named, emptied}
use Rattle.home.proofs.Proper.{ProperMember}
use Rattle.home.proofs.Alls.{All, all-mono, all-kept}
use Rattle.home.proofs.Slots.{at, slot_row}
use Rattle.home.proofs.CleanLines.{CleanValue, CleanParam}
use Rattle.home.proofs.CleanTexts.{CleanText, text-clean, clean-raw}
use Rattle.home.proofs.ReadNames.{NameWell, name-well}
use Rattle.home.proofs.LineEntries.{Drawn, entry-drawn}
use Rattle.home.proofs.LineKept.{LineFine, names-word, clean-param, never}
use Rattle.home.proofs.Pointed.{name-clean, value-sound}
use Rattle.home.proofs.Classes.{Fact, class-fact}

-- what is known of a class, whatever was seen before
abbrev pub WellClass : Line → Class → Type 0
WellClass l as-version = Unit {0}
WellClass l (as-uid v) = (filled v && utf8 v ≡ true) × (carried_raw v ≡ true)
WellClass l (as-kind v) = is_lower_word v ≡ true
WellClass l as_dropped = Unit {0}
WellClass l (as-full v) = CleanText v
WellClass l (as_parts ps) = NameWell ps × (has_parts ps ≡ true)
WellClass l (as-entry i e) = (m : Map) × (at i maps ≡ some m) × Drawn m e
WellClass l (as_member n j) = ProperMember (member n j) × (carried_param n ≡ true)
WellClass l as-kept = not (among (kept_line l).name never_kept) ≡ true

-- its PROP-ID or its member's name was not seen before
abbrev pub NewClass : Seen → Class → Type 0
NewClass s as-version = Unit {0}
NewClass s (as-uid v) = Unit {0}
NewClass s (as-kind v) = Unit {0}
NewClass s as_dropped = Unit {0}
NewClass s (as-full v) = Unit {0}
NewClass s (as_parts ps) = Unit {0}
NewClass s (as-entry i e) = empty e.key || not (any (is_id i e.key) s.ids) ≡ true
NewClass s (as_member n j) = among n s.members ≡ false
NewClass s as-kept = Unit {0}

-- ---- UID and KIND

uid-filled : (l : Line) → emptied l ≡ false → same (lowered l.name) (ascii "uid") ≡ true → filled l.value ≡ true
unfolding emptied
uid-filled l e q =
    let a : same (lowered l.name) (ascii "uid") && empty l.value ≡ false = or_left _ _ e in
    let b : empty l.value ≡ false = rw q at a in
    ap not b

kind-word : (l : Line) → emptied l ≡ false → same (lowered l.name) (ascii "kind") ≡ true → filled l.value && all is_name l.value ≡ true
unfolding emptied
kind-word l e q =
    let a : same (lowered l.name) (ascii "kind") && (empty l.value || not (all is_name l.value)) ≡ false = or_right (is_named (ascii "uid") l && empty l.value) _ e in
    let b : empty l.value || not (all is_name l.value) ≡ false = rw q at a in
    and-true (ap not (or_left (empty l.value) _ b)) (not-false (all is_name l.value) (or_right (empty l.value) _ b))

-- ---- every line

module _ (s : Seen) (l : Line) (h : LineFine l) (f : emptied l ≡ false) where
  clean-values : All (λ p. All CleanValue (param_values p)) (besides_value l.params)
  unfolding besides_value lacking
  clean-values =
      all-kept (λ p. All CleanValue (param_values p)) (λ p. not (named (ascii "value") p)) l.params
      (all-mono CleanParam (λ p. All CleanValue (param_values p)) (λ p c. c.1.1) l.params h.clean.params)

  fit : (c : Class) → Fact s l c → WellClass l c × NewClass s c
  fit as-version q = (tt, tt)
  fit (as-uid v) q = rw q.1 ((and-true (uid-filled l f q.0) h.clean.value.0, clean-raw l.value h.clean.value), tt)
  fit (as-kind v) q = rw q.1 (names-word l.value (kind-word l f q.0), tt)
  fit as_dropped q = (tt, tt)
  fit (as-full v) q = (text-clean l.value v h.clean.value q.0, tt)
  fit (as_parts ps) q = (name-well l.value ps h.clean.value q.0, tt)
  fit (as-entry i e) q =
      let t = slot_row (lowered l.name) q.0 q.1 in
      let d = entry-drawn s q.0 l e h.clean t.1 q.3 in
      rw (← q.2) ((q.0.map, t.0, d.0), d.1)
  fit (as_member n j) q =
      let c = name-clean s (besides_value l.params) n clean-values q.0 in
      ((record { name = rw (c.0, c.2, c.1.0.0); value = value-sound l.value j q.1 }, clean-param l h n c.1), c.3)
  fit as-kept q = (never l h q.0 q.1 q.2, tt)

  pub class-fit : WellClass l (classify s l) × NewClass s (classify s l)
  class-fit = fit (classify s l) (class-fact s l)
