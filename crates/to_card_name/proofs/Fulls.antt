-- Whether a name says a full name.
use mathlib.Core.Path.{◌≡◌, refl, sym, ap, subst, ◌∙◌}
use mathlib.Core.Bool.{Bool, true, false, ◌&&◌, ◌||◌, not}
use mathlib.Core.List.{List, [], ◌∷◌}
use mathlib.Core.Option.{Option, none, some, map}
use Prim.Native.Nat.{ℕ, ◌<◌}
use native.Mathlib.Omega.{arith}
use lib.Dec.{eqb}
use lib.ListN.{length, get_or}
use Rattle.text.specs.Choice.{with-some, is_some, both, chain, provided}
use Rattle.text.specs.Bytes.{Bytes, ascii, parts, each}
use Rattle.json_text.specs.Tree.{Json, Member, field, as_string, as_array, as_object}
use Rattle.json_index.specs.Index.{first_at, Slot, Indexed, IndexOf, Indexes}
use Rattle.json_index.proofs.Fields.{first_field}
use Rattle.convert.specs.FromJson.{only_members, Component, component_of, Name, is_false, name_from, by_kind}
use Rattle.to_card_head.proofs.Slots.{slot-none, slot-some}
use Rattle.to_card_name.specs.Name.{name_given, FullGiven}
use Rattle.to_card_name.proofs.Whole.{names, names-are, new-0}

some_is : {A : Type 0} {a b : A} → some a ≡ some b → a ≡ b
some_is h = cc

not_some : {A : Type 0} {a : A} → none ≡ some a → ⊥
not_some h = let z : ◌≡◌ {A = ℕ} 0 1 = cc in omega arith

-- the name that `name_from` makes of its parts
name-full : (b : Bool) (x : Option Bool) (f : Option Json) (cs : Option (List Component)) (n : Name)
    → provided b (chain x λ o. both (λ g c. record { full = g; parts = by_kind c }) (with-some f (λ v. map some (as_string v)) (some none)) cs) ≡ some n → is_some n.full ≡ is_some f
name-full false x f cs n e = absurd (not_some e)
name-full true none f cs n e = absurd (not_some e)
name-full true (some o) none none n e = absurd (not_some e)
name-full true (some o) none (some c) n e = sym (ap (λ (m : Name). is_some m.full) (some_is e))
name-full true (some o) (some v) cs n e = by (as_string v) cs e
  where
    by : (a : Option Bytes) (cs : Option (List Component)) → both (λ g c. record { full = g; parts = by_kind c }) (map some a) cs ≡ some n → is_some n.full ≡ true
    by none cs h = absurd (not_some h)
    by (some a) none h = absurd (not_some h)
    by (some a) (some c) h = sym (ap (λ (m : Name). is_some m.full) (some_is h))

chain-some : {A B : Type 0} (o : Option A) (f : A → Option B) (b : B) → chain o f ≡ some b → (a : A) × (o ≡ some a) × (f a ≡ some b)
chain-some none f b e = absurd (not_some e)
chain-some (some a) f b e = (a, refl, e)

abbrev has_members : List Member → Bool
has_members ms = only_members (ascii "full" ∷ ascii "components" ∷ ascii "isOrdered" ∷ []) ms && (is_some (field (ascii "full") ms) || is_some (field (ascii "components") ms))

abbrev unordered : List Member → Option Bool
unordered ms = with-some (field (ascii "isOrdered") ms) is_false (some true)

abbrev components : List Member → Option (List Component)
components ms = with-some (field (ascii "components") ms) (λ v. chain (as_array v) (each component_of)) (some [])

abbrev name_of_members : List Member → Option Name
name_of_members ms =
    provided (has_members ms)
    (chain (unordered ms) λ o. both (λ g c. record { full = g; parts = by_kind c }) (with-some (field (ascii "full") ms) (λ v. map some (as_string v)) (some none)) (components ms))

full-field : (j : Json) (n : Name) → name_from j ≡ some n → (ms : List Member) × (as_object j ≡ some ms) × (is_some n.full ≡ is_some (field (ascii "full") ms))
unfolding name_from
full-field j n e =
    let w = chain-some (as_object j) name_of_members n e in
    (w.0, w.1, name-full (has_members w.0) (unordered w.0) (field (ascii "full") w.0) (components w.0) n w.2)

module _ (s : Bytes) (slot : ℕ) where
  pub full-absent : slot ≡ 0 → FullGiven s slot false
  full-absent e o h n g = let y : o ≡ none = slot-none 15 s slot o h e in ap (λ (m : Name). is_some m.full) (sym (some_is (sym (ap name_given y) ∙ g)))

  module _ (k : slot ≡ 0 → ⊥) (xs : List ℕ) (b : Bool) (index : Indexes 14 s slot (ascii "full,components,isOrdered") xs b) where
    abbrev given : List Bytes
    given = parts 44 (ascii "full,components,isOrdered")

    object-index : (o : Option Json) → Slot 15 s slot o → (n : Name) → name_given o ≡ some n → (ms : List Member) × (is_some n.full ≡ is_some (field (ascii "full") ms)) × Indexed 14 s given xs ms
    object-index o h n g =
        let v = slot-some 15 s slot o h k in
        let w = full-field v.0 n (sym (ap name_given v.1) ∙ g) in
        let i : IndexOf 14 s given xs b (some w.0) = subst (IndexOf 14 s given xs b) w.1 (index v.0 v.2) in
        (w.0, w.2, i.1)

    pub full-told : FullGiven s slot (not (eqb (get_or xs 0 0) 0))
    full-told o h n g =
        let w = object-index o h n g in
        let l : 0 < length names = omega arith in
        let c : Slot 14 s (get_or xs 0 0) (first_at names 0 w.0) = subst (λ (ns : List Bytes). Slot 14 s (get_or xs 0 0) (first_at ns 0 w.0)) names-are (w.2 0) in
        let f : first_at names 0 w.0 ≡ field (ascii "full") w.0 = first_field names 0 l new-0 w.0 in
        w.1 ∙ sym (ap is_some f) ∙ twice (is_some (first_at names 0 w.0)) ∙ sym (ap not c.there)
      where
        twice : (x : Bool) → x ≡ not (not x)
        twice true = refl
        twice false = refl
