-- The row of the table that a line's slot has, and the entry's key.
use mathlib.Core.Path.{◌≡◌, refl, sym, ap, subst, ◌∙◌}
use mathlib.Core.Bool.{Bool, true, false, not, ◌&&◌}
use mathlib.Core.List.{List, [], ◌∷◌}
use mathlib.Core.Option.{Option, none, some}
use Prim.Native.Nat.{ℕ, zero, suc, ◌-◌, ◌<◌}
use native.Mathlib.Omega.{arith}
use lib.Dec.{eqb}
use lib.ListN.{length, take, drop, get_or}
use Rattle.text.specs.Choice.{provided, chain}
use Rattle.text.specs.Bytes.{Bytes, ascii, empty, lowered}
use Rattle.text.proofs.Cases.{in_range, not-both, and_left}
use Rattle.text.proofs.Choices.{none-some, some_same, provided-inv}
use Rattle.line.specs.Grammar.{Param, Line}
use Rattle.line.specs.Params.{values_named, only_named, besides_value, value_type}
use Rattle.convert.specs.Table.{Map, maps, Slot, slot_of}
use Rattle.convert.specs.Model.{Entry, singly}
use Rattle.convert.specs.Value.{is_key_text, takes_type, read_as}
use Rattle.convert.specs.Classify.{Seen, as-entry, Classed, key_from, pref_from, types_from, entry_of}
use Rattle.convert_params.specs.Row.{values_kind, Row}
use Rattle.convert_entry.specs.Rows.{names_in, form_number, Is}
use Rattle.convert_entry.proofs.Named.{prop-ids}
use Rattle.convert_entry.proofs.Tests.{first-id}
use Rattle.class_properties.specs.Names.{types_of, form_of}
use Rattle.line_table.specs.Table.{line_in, Holds}
use Rattle.line_unfold.specs.Table.{line_at}
use Rattle.table_entry.proofs.Spread.{entry-held}
use Rattle.from_card_lines.proofs.Lines.{LineOf}
use Rattle.home.proofs.Classes.{Fact, class-fact}
use Rattle.home.proofs.Slots.{at, slot_row}
use Rattle.to_json_maps.specs.Maps.{no_map, map_at, Enters, Converts}
use Rattle.to_json_maps.proofs.Dashes.{Dashless, no-prop-id}

-- ---- from the number of a line's class to its entry

pub enters : {scratch starts codes : List ℕ} {k : ℕ} {c : Classed} (i : ℕ) (e : Entry) → LineOf scratch starts codes k c → c.class ≡ as-entry i e → Enters (line_at scratch starts k) i e
enters {c = c} i e h q =
    let f : Fact h.seen c.line (as-entry i e) = subst (Fact h.seen c.line) (sym h.turn ∙ q) (class-fact h.seen c.line) in
    record { line = c.line; read = h.read; seen = h.seen; slot = f.0; named = f.1; index = f.2; entry = f.3 }

-- ---- the row

at_default : (i : ℕ) (ms : List Map) (m : Map) → at i ms ≡ some m → get_or ms i no_map ≡ m
at_default i [] m e = none-some e
at_default zero (x ∷ ms) m e = some_same e
at_default (suc i) (x ∷ ms) m e = at_default i ms m e

at-below : (i : ℕ) (ms : List Map) (m : Map) → at i ms ≡ some m → i < length ms
at-below i [] m e = none-some e
at-below zero (x ∷ ms) m e = omega arith
at-below (suc i) (x ∷ ms) m e = omega (arith, at-below i ms m e)

types-row : (i : ℕ) → i < 7 → (map_at i).types ≡ types_of i
unfolding map_at types_of
types-row i l = in_range (λ i. (map_at i).types) types_of i 0 7 refl (omega arith) l

names-row : (i : ℕ) → i < 7 → (map_at i).parameters ≡ names_in (not (eqb (types_of i) 0))
unfolding map_at types_of
names-row i l = in_range (λ i. (map_at i).parameters) (λ i. names_in (not (eqb (types_of i) 0))) i 0 7 refl (omega arith) l

form-row : (i : ℕ) → i < 7 → form_number (map_at i).form ≡ form_of i
unfolding map_at form_of
form-row i l = in_range (λ i. form_number (map_at i).form) form_of i 0 7 refl (omega arith) l

module _ (n : Bytes) (w : Slot) (e : slot_of n ≡ some w) where
  module _ (i : ℕ) (q : w.index ≡ i) where
    there : at i maps ≡ some w.map
    there = ap (λ j. at j maps) (sym q) ∙ (slot_row n w e).0

    pub slot-low : i < 7
    slot-low = at-below i maps w.map there

    pub slot_map : w.map ≡ map_at i
    unfolding map_at
    slot_map = sym (at_default i maps w.map there)

    pub slot_is : Is w i (types_of i) (form_of i)
    slot_is = record {
      index = q;
      types = ap (λ (m : Map). m.types) slot_map ∙ types-row i slot-low;
      parameters = ap (λ (m : Map). m.parameters) slot_map ∙ names-row i slot-low;
      form = ap (λ (m : Map). form_number m.form) slot_map ∙ form-row i slot-low;
    }

-- ---- what a filled table holds

held-line : {s : Bytes} {t : List ℕ} {i : ℕ} {e : Entry} (h : Holds s t) (x : Enters s i e) → h.line ≡ x.line
held-line h x = some_same (sym h.is ∙ x.read)

pub held-entry : {s : Bytes} {t : List ℕ} {i : ℕ} {e : Entry} → Holds s t → (x : Enters s i e) → entry_of x.seen x.slot (line_in s t) ≡ some e
held-entry h x = entry-held h x.seen x.slot ∙ ap (entry_of x.seen x.slot) (held-line h x) ∙ x.entry

pub held-named : {s : Bytes} {t : List ℕ} {i : ℕ} {e : Entry} → Holds s t → (x : Enters s i e) → slot_of (lowered (line_in s t).name) ≡ some x.slot
held-named h x = ap (λ (l : Line). slot_of (lowered l.name)) h.held ∙ ap (λ (l : Line). slot_of (lowered l.name)) (held-line h x) ∙ x.named

pub held-converts : {s : Bytes} {t : List ℕ} {i : ℕ} {e : Entry} → Holds s t → Enters s i e → Converts s t i e
held-converts h x = record { seen = x.seen; slot = x.slot; named = held-named h x; index = x.index; entry = held-entry h x }

-- ---- the key

key-inv : {B C D : Type 0} (t : Bool) (k : Option Bytes) (p : Option B) (x : Option C) (v : Option D) (f : Bytes → B → C → D → Entry) (e : Entry)
    → ((a : Bytes) (b : B) (c : C) (d : D) → (f a b c d).key ≡ a)
    → provided t (chain k λ a. chain p λ b. chain x λ c. chain v λ d. some (f a b c d)) ≡ some e → k ≡ some e.key
key-inv false k p x v f e g h = none-some h
key-inv true none p x v f e g h = none-some h
key-inv true (some a) none x v f e g h = none-some h
key-inv true (some a) (some b) none v f e g h = none-some h
key-inv true (some a) (some b) (some c) none f e g h = none-some h
key-inv true (some a) (some b) (some c) (some d) f e g h = ap some (sym (g a b c d) ∙ ap (λ (x : Entry). x.key) (some_same h))

entry_key : (s : Seen) (w : Slot) (l : Line) (e : Entry) → entry_of s w l ≡ some e → key_from s w.index (values_named (ascii "prop-id") (besides_value l.params)) ≡ some e.key
unfolding entry_of
entry_key s w l e h =
    let ps : List Param = besides_value l.params in
    let type : Bytes = value_type l.params in
    key-inv (empty l.group && only_named w.map.parameters ps && takes_type w.map.form type) (key_from s w.index (values_named (ascii "prop-id") ps))
    (pref_from (values_named (ascii "pref") ps)) (types_from w.map.types (values_named (ascii "type") ps)) (read_as w.map.form type l.value)
    (λ k p ts vs. record { key = k; which = w.which; parts = singly vs; types = ts; pref = p }) e (λ a b c d. refl) h

no_length : (us : List Bytes) → 0 ≡ length us → us ≡ []
no_length [] e = refl
no_length (u ∷ us) e = absurd (omega (arith, e))

key-text : (k : Bytes) → is_key_text k ≡ true → empty k ≡ false
unfolding is_key_text
key-text [] e = not-both refl (sym e)
key-text (x ∷ k) e = refl

one_key : (s : Seen) (i : ℕ) (k : Bytes) (ks : List Bytes) (x : Bytes) → key_from s i (k ∷ ks) ≡ some x → (x ≡ k) × (empty x ≡ false)
one_key s i k [] x h =
    let q = provided-inv _ (some k) h in
    let z : x ≡ k = sym (some_same q.1) in
    (z, ap empty z ∙ key-text k (and_left (is_key_text k) _ q.0))
one_key s i k (j ∷ ks) x h = none-some h

-- no PROP-ID, where there is no dash
pub dashless-key : (s : Bytes) (i : ℕ) (e : Entry) → Enters s i e → Dashless s → e.key ≡ []
dashless-key s i e x d =
    let l : Line = x.line in
    sym (some_same (ap (key_from x.seen x.slot.index) (sym (no-prop-id s l x.read d)) ∙ entry_key x.seen x.slot l e x.entry))

module _ (seen : Seen) (w : Slot) (s : Bytes) (t : List ℕ) {C F T : List ℕ} {e : Entry} (h : entry_of seen w (line_in s t) ≡ some e) (r : Row s C F T (line_in s t).params) where
  from : key_from seen w.index (values_kind 0 (line_in s t).params) ≡ some e.key
  from = ap (key_from seen w.index) (prop-ids (line_in s t).params) ∙ entry_key seen w (line_in s t) e h

  -- no PROP-ID
  pub no_key : get_or C 0 0 ≡ 0 → e.key ≡ []
  no_key z = sym (some_same (ap (key_from seen w.index) (sym (no_length (values_kind 0 (line_in s t).params) (sym z ∙ (r.held 0 (omega arith)).count))) ∙ from))

  -- the PROP-ID
  pub own_key : (get_or C 0 0 ≡ 0 → ⊥) → (e.key ≡ take (get_or T 0 0 - get_or F 0 0) (drop (get_or F 0 0) s)) × (empty e.key ≡ false)
  own_key n =
      let f = first-id r n in
      one_key seen w.index _ f.others e.key (ap (key_from seen w.index) (sym f.is) ∙ from)
