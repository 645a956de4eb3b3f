-- A line of a map: the entry that it gives is written as the line's normal form.
use mathlib.Core.Path.{◌≡◌, refl, sym, ap, ap₂, ◌∙◌}
use mathlib.Core.Bool.{◌&&◌, not}
use mathlib.Core.List.{List, [], ◌∷◌, ◌++◌, map}
use mathlib.Core.Option.{some}
use Prim.Native.Nat.{ℕ, suc}
use lib.ListN.{get_or}
use Rattle.text.specs.Choice.{pick}
use Rattle.text.specs.Bytes.{Bytes, ascii, any, empty, same, lowered, joined, flat}
use Rattle.text.proofs.Cases.{not-true}
use Rattle.text.proofs.Choices.{none-some, some_same}
use Rattle.line.specs.Grammar.{Param, param, Line}
use Rattle.line.specs.Params.{values_named, only_named, value_type, besides_value}
use Rattle.convert.specs.Table.{Map, Slot, slot_from, slot_of, position, maps}
use Rattle.convert.specs.Model.{Entry}
use Rattle.convert.specs.Value.{is_key_text, is_pref, read_as, takes_type, write_as, written_type}
use Rattle.convert.specs.Classify.{Seen, is_id, key_from, pref_from, types_from, entry_of}
use Rattle.convert.specs.Property.{property, param_of}
use Rattle.convert.specs.ToCard.{entry_line}
use Rattle.convert.specs.NormalCard.{type_form, value_form, entry_value, entry_form, prop_id}
use Rattle.convert.proofs.Forms.{flat-singly}
use Rattle.convert.proofs.Types.{type_text}
use Rattle.home.proofs.Known.{on_provided, on_chain, on_some}
use Rattle.home.proofs.Positions.{position-name, pref-filled}
use Rattle.home.proofs.NormalCardRest.{values-besides}
use Rattle.home.proofs.NormalCardTypes.{types-form}
use Rattle.home.proofs.NormalCardValues.{form-written}

-- ---- the slot of a property

abbrev slot : ℕ → Map → ℕ → Slot
slot i m k = record { index = i; map = m; which = k }

slot-which : (i : ℕ) (ms : List Map) (n : Bytes) (w : Slot) → slot_from i ms n ≡ some w → position (same n) w.map.properties ≡ some w.which
unfolding slot_from
slot-which i [] n w e = none-some e
slot-which i (m ∷ ms) n w e =
    on_some (position (same n) m.properties)
    (λ p. slot-which (suc i) ms n w (rw p at e))
    (λ k p. let q : slot i m k ≡ w = some_same (rw p at e) in rw (← q) p)

-- the property's name
slot-name : (n : Bytes) (w : Slot) → slot_of n ≡ some w → n ≡ get_or w.map.properties w.which []
unfolding slot_of
slot-name n w e = position-name n w.map.properties w.which (slot-which 0 maps n w e)

-- ---- parameters

key-given : (s : Seen) (i : ℕ) (vs : List Bytes) (k : Bytes) → key_from s i vs ≡ some k → k ≡ joined [] vs
unfolding joined
key-given s i [] k e = sym (some_same e)
key-given s i (v ∷ []) k e = on_provided (is_key_text v && not (any (is_id i v) s.ids)) (some v) e λ t r. sym (some_same r)
key-given s i (v ∷ (w ∷ vs)) k e = none-some e

pref-given : (vs : List Bytes) (p : Bytes) → pref_from vs ≡ some p → pick (empty p) [] (param (ascii "pref") (p ∷ []) ∷ []) ≡ param_of (ascii "pref") vs
pref-given [] p e = rw (← some_same e)
pref-given (v ∷ []) p e = on_provided (is_pref v) (some v) e λ t r. rw (← some_same r, not-true (empty v) (pref-filled v t))
pref-given (v ∷ (w ∷ vs)) p e = none-some e

-- ---- the entry

-- with another key
abbrev pub rekeyed : Bytes → Entry → Entry
rekeyed k e = record { key = k; which = e.which; parts = e.parts; types = e.types; pref = e.pref }

-- what makes the entry of a line
module _ (s : Seen) (w : Slot) (l : Line) (e : Entry) where
  abbrev ps : List Param
  ps = besides_value l.params

  pub on_entry {ℓ} : {P : Type ℓ} → entry_of s w l ≡ some e
      → (key_from s w.index (values_named (ascii "prop-id") ps) ≡ some e.key → pref_from (values_named (ascii "pref") ps) ≡ some e.pref
      → types_from w.map.types (values_named (ascii "type") ps) ≡ some e.types → read_as w.map.form (value_type l.params) l.value ≡ some (flat e.parts) → w.which ≡ e.which → P) → P
  unfolding entry_of
  on_entry h go =
      on_provided (empty l.group && only_named w.map.parameters ps && takes_type w.map.form (value_type l.params)) _ h λ t a.
      on_chain (key_from s w.index (values_named (ascii "prop-id") ps)) _ a λ k e1 a1.
      on_chain (pref_from (values_named (ascii "pref") ps)) _ a1 λ p e2 a2.
      on_chain (types_from w.map.types (values_named (ascii "type") ps)) _ a2 λ ts e3 a3.
      on_chain (read_as w.map.form (value_type l.params) l.value) _ a3 λ vs e4 a4.
      let q = some_same a4 in
      go (e1 ∙ ap (λ (x : Entry). some x.key) q) (e2 ∙ ap (λ (x : Entry). some x.pref) q) (e3 ∙ ap (λ (x : Entry). some x.types) q) (e4 ∙ ap some (sym (flat-singly vs)) ∙ ap (λ (x : Entry). some (flat x.parts)) q) (ap (λ (x : Entry). x.which) q)

  pub entry-which : entry_of s w l ≡ some e → w.which ≡ e.which
  entry-which h = on_entry h λ k p t v n. n

  pub entry_key : entry_of s w l ≡ some e → e.key ≡ prop_id l
  unfolding same
  entry_key h = on_entry h λ k p t v n. key-given s w.index _ e.key k ∙ ap (joined []) (values-besides (ascii "prop-id") l.params refl)

  params-form : entry_of s w l ≡ some e
      → pick (empty e.pref) [] (param (ascii "pref") (e.pref ∷ []) ∷ []) ++ param_of (ascii "type") (map type_text e.types) ++ param_of (ascii "value") (written_type w.map.form (flat e.parts))
      ≡ param_of (ascii "pref") (values_named (ascii "pref") l.params) ++ param_of (ascii "type") (type_form (values_named (ascii "type") l.params))
      ++ param_of (ascii "value") (value_form w.map.form (value_type l.params) l.value)
  unfolding same
  params-form h =
      on_entry h λ k p t v n.
      ap₂ ◌++◌
      (ap₂ ◌++◌ (pref-given (values_named (ascii "pref") ps) e.pref p ∙ ap (param_of (ascii "pref")) (values-besides (ascii "pref") l.params refl))
      (ap (param_of (ascii "type")) (types-form w.map.types (values_named (ascii "type") ps) e.types t ∙ ap type_form (values-besides (ascii "type") l.params refl))))
      (ap (param_of (ascii "value")) (form-written w.map.form (value_type l.params) l.value (flat e.parts) v).1)

  name-form : entry_of s w l ≡ some e → slot_of (lowered l.name) ≡ some w → get_or w.map.properties e.which [] ≡ lowered l.name
  name-form h o = on_entry h λ k p t v n. ap (λ (x : ℕ). get_or w.map.properties x []) (sym n) ∙ sym (slot-name (lowered l.name) w o)

  value-form : entry_of s w l ≡ some e → write_as w.map.form (flat e.parts) ≡ entry_value w.map.form (value_type l.params) l.value
  value-form h = on_entry h λ k p t v n. (form-written w.map.form (value_type l.params) l.value (flat e.parts) v).0

  pub entry-line : entry_of s w l ≡ some e → slot_of (lowered l.name) ≡ some w → (k : Bytes) → entry_line w.map (rekeyed k e) ≡ entry_form w.map k l
  unfolding entry_line entry_form
  entry-line h o k =
      ap₂ (λ (n : Bytes) (x : List Param). property n (param (ascii "prop-id") (k ∷ []) ∷ x) (write_as w.map.form (flat e.parts))) (name-form h o) (params-form h)
      ∙ ap (property (lowered l.name) _) (value-form h)
