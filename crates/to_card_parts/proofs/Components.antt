-- One component, by its members.
use mathlib.Core.Path.{◌≡◌, refl, sym, ap, subst, ◌∙◌}
use Rattle.std.specs.Prelude.{Err, Ok, Some, None}
use Rattle.to_card_pen.specs.Refusal.{no_card}
use mathlib.Core.Bool.{Bool, true, false}
use mathlib.Core.List.{List, [], ◌∷◌}
use mathlib.Core.Option.{Option, none, some}
use Prim.Native.Nat.{ℕ, zero, suc, ◌+◌, ◌≤◌, ◌<◌}
use native.Mathlib.Omega.{arith}
use lib.Dec.{eqb, ltb}
use lib.ListN.{length, get_or}
use borrow.Author.Tests.{eq-eqb, ne_eqb, lt-ltb, le-ltb, ltb-true, ltb-false}
use Rattle.text.specs.Choice.{pick, with-some, both, chain, provided}
use Rattle.text.specs.Bytes.{Bytes, ascii, any, same, among, parts, on_head}
use Rattle.text.specs.Places.{byte_at, Passes}
use Rattle.text.proofs.Cases.{by_bool}
use Rattle.text.proofs.Same.{same-swap}
use Rattle.json_text.specs.Grammar.{is_space}
use Rattle.json_text.specs.Tree.{Json, Member, field, as_object}
use Rattle.json_strings.specs.Decoded.{decoded_at}
use Rattle.json_index.specs.Index.{placed, first_at, Slot, Clear, Indexed, IndexOf, Indexes}
use Rattle.json_index.proofs.Fields.{first_field, first-other}
use Rattle.convert.specs.Table.{position, component_kinds}
use Rattle.convert.specs.FromJson.{only_members, Component, component, component_in}
use Rattle.to_card_value.specs.Values.{StringIs, TellsString}
use Rattle.to_card_head.proofs.Slots.{slot-none, slot-some}
use Rattle.to_card_parts.specs.Parts.{kind_from, string_from, ComponentIs, TellsSlots, TellsComponent, OpensAs, Finding, found}
use Rattle.to_card_parts.proofs.Elements.{not-array, empty-array, array-elements}

-- the slots of kind, value and others, before the index
pub clear-three : Clear (0 ∷ 0 ∷ 0 ∷ [])
clear-three zero = refl
clear-three (suc zero) = refl
clear-three (suc (suc zero)) = refl
clear-three (suc (suc (suc i))) = refl

-- ---- the place of a kind

position-placed : (x : Bytes) (ks : List Bytes) → position (same x) ks ≡ pick (ltb (placed (some x) ks) (length ks)) (some (placed (some x) ks)) none
unfolding position placed
position-placed x [] = refl
position-placed x (k ∷ ks) =
    by_bool (same k x)
    (λ e. let f : same x k ≡ true = same-swap x k ∙ e in let l : 0 < suc (length ks) = omega arith in rw (e, f, lt-ltb 0 (suc (length ks)) l))
    (λ e. let f : same x k ≡ false = same-swap x k ∙ e in rw (e, f, position-placed x ks) (go (placed (some x) ks) (length ks)))
  where
    go : (p n : ℕ) → with-some (pick (ltb p n) (some p) none) (λ i. some (suc i)) none ≡ pick (ltb (suc p) (suc n)) (some (suc p)) none
    go p n =
        by_bool (ltb p n)
        (λ e. let l : suc p < suc n = omega (arith, ltb-true p n e) in rw (e, lt-ltb (suc p) (suc n) l))
        (λ e. let l : suc n ≤ suc p = omega (arith, ltb-false p n e) in rw (e, le-ltb (suc p) (suc n) l))

pub kinds-are : parts 44 (ascii "surname,given,given2,title,credential,surname2,generation") ≡ component_kinds
unfolding parts on_head
kinds-are = refl

-- ---- by the slots

no_kind : (o : Option Bytes) → both component none o ≡ none
no_kind o = refl

no-string : (o : Option ℕ) → both component o none ≡ none
no-string none = refl
no-string (some k) = refl

module _ (s : Bytes) (kind value : ℕ) where
  wrong : (o : Option Component) → o ≡ none → ComponentIs s (Err no_card) o
  wrong o e = subst (ComponentIs s (Err no_card)) (sym e) refl

  kind-less : (r : (o : Option Json) → Slot 12 s kind o → kind_from o ≡ none) → TellsSlots s kind value (Err no_card)
  kind-less f o o' h h' = wrong (both component (kind_from o) (string_from o')) (ap (λ (x : Option ℕ). both component x (string_from o')) (f o h) ∙ no_kind (string_from o'))

  value-less : (r : (o : Option Json) → Slot 12 s value o → string_from o ≡ none) → TellsSlots s kind value (Err no_card)
  value-less f o o' h h' = wrong (both component (kind_from o) (string_from o')) (ap (both component (kind_from o)) (f o' h') ∙ no-string (kind_from o))

  pub slots-kind : kind ≡ 0 → TellsSlots s kind value (Err no_card)
  slots-kind e = kind-less (λ o h. ap kind_from (slot-none 12 s kind o h e))

  pub slots-value : value ≡ 0 → TellsSlots s kind value (Err no_card)
  slots-value e = value-less (λ o h. ap string_from (slot-none 12 s value o h e))

  string-of : (x q : ℕ) (o : Option Json) → Slot 12 s x o → (x ≡ 0 → ⊥) → TellsString s x q → StringIs s q (string_from o)
  string-of x q o h n t = let v = slot-some 12 s x o h n in subst (λ (y : Option Json). StringIs s q (string_from y)) (sym v.1) (t 12 v.0 v.2)

  none-at : (q : ℕ) (o : Option Bytes) → q ≡ 0 → StringIs s q o → o ≡ none
  none-at q none e h = refl
  none-at q (some x) e h = absurd (omega (arith, h.0))

  some_at : (q : ℕ) (o : Option Bytes) → (q ≡ 0 → ⊥) → StringIs s q o → (x : Bytes) × (o ≡ some x) × (decoded_at s q ≡ some x)
  some_at q none n h = absurd (n h)
  some_at q (some x) n h = (x, refl, h.1)

  by-string : (o : Option Json) → kind_from o ≡ chain (string_from o) λ x. position (same x) component_kinds
  by-string none = refl
  by-string (some v) = refl

  module _ (nk : kind ≡ 0 → ⊥) (q : ℕ) (tq : TellsString s kind q) where
    pub slots-no-kind : q ≡ 0 → TellsSlots s kind value (Err no_card)
    slots-no-kind e = kind-less (λ o h. by-string o ∙ ap (λ (x : Option Bytes). chain x λ y. position (same y) component_kinds) (none-at q (string_from o) e (string-of kind q o h nk tq)))

    module _ (nq : q ≡ 0 → ⊥) (k : ℕ) (names : Bytes) (names-are : parts 44 names ≡ component_kinds) (ek : k ≡ placed (decoded_at s q) (parts 44 names)) where
      kind-is : (o : Option Json) → Slot 12 s kind o → kind_from o ≡ pick (ltb k 7) (some k) none
      kind-is o h =
          let x = some_at q (string_from o) nq (string-of kind q o h nk tq) in
          let p : placed (some x.0) component_kinds ≡ k = sym (ek ∙ ap (λ (y : Option Bytes). placed y (parts 44 names)) x.2 ∙ ap (placed (some x.0)) names-are) in
          by-string o ∙ ap (λ (y : Option Bytes). chain y λ z. position (same z) component_kinds) x.1 ∙ position-placed x.0 component_kinds
          ∙ ap (λ (i : ℕ). pick (ltb i 7) (some i) none) p

      pub slots-strange : 7 ≤ k → TellsSlots s kind value (Err no_card)
      slots-strange l = kind-less (λ o h. kind-is o h ∙ ap (λ (b : Bool). pick b (some k) none) (le-ltb k 7 l))

      module _ (l : k < 7) (nv : value ≡ 0 → ⊥) (v : ℕ) (tv : TellsString s value v) where
        pub slots-no-value : v ≡ 0 → TellsSlots s kind value (Err no_card)
        slots-no-value e = value-less (λ o h. none-at v (string_from o) e (string-of value v o h nv tv))

        pub slots-of : (v ≡ 0 → ⊥) → TellsSlots s kind value (found k v)
        slots-of n o o' h h' =
            let x = some_at v (string_from o') n (string-of value v o' h' nv tv) in
            let e : kind_from o ≡ some k = kind-is o h ∙ ap (λ (b : Bool). pick b (some k) none) (lt-ltb k 7 l) in
            subst (ComponentIs s (found k v)) (sym (ap (λ (y : Option ℕ). both component y (string_from o')) e ∙ ap (both component (some k)) x.1)) (v, refl, x.2)

-- ---- the object

abbrev names : List Bytes
names = ascii "kind" ∷ ascii "value" ∷ []

pub names-are : parts 44 (ascii "kind,value") ≡ names
unfolding parts on_head
names-are = refl

no-first : among (ascii "kind") [] ≡ false
unfolding among any
no-first = refl

differ : among (ascii "value") (ascii "kind" ∷ []) ≡ false
unfolding among any same
differ = refl

module _ (s : Bytes) (at : ℕ) (xs : List ℕ) (r : Bool) (index : Indexes 12 s at (ascii "kind,value") xs r) where
  pub object-not : r ≡ false → TellsComponent s at (Err no_card)
  unfolding component_in
  object-not e v w = by (as_object v) (index v w)
    where
      by : (o : Option (List Member)) → IndexOf 12 s (parts 44 (ascii "kind,value")) xs r o
          → ComponentIs s (Err no_card) (chain o λ ms. provided (only_members names ms) (both component (kind_from (field (ascii "kind") ms)) (string_from (field (ascii "value") ms))))
      by none h = refl
      by (some ms) h = let z : ◌≡◌ {A = ℕ} 0 1 = cc in absurd (omega arith)

  module _ (e : r ≡ true) where
    slot_of : (ms : List Member) → Indexed 12 s (parts 44 (ascii "kind,value")) xs ms → (i : ℕ) → Slot 12 s (get_or xs i 0) (first_at names i ms)
    slot_of ms h i = subst (λ (ns : List Bytes). Slot 12 s (get_or xs i 0) (first_at ns i ms)) names-are (h i)

    -- the object's members are the slots', and no others
    by_members : (f : Finding) → ((ms : List Member) → Slot 12 s (get_or xs 0 0) (field (ascii "kind") ms) → Slot 12 s (get_or xs 1 0) (field (ascii "value") ms) → Slot 12 s (get_or xs 2 0) (first_at names 2 ms)
        → ComponentIs s f (provided (only_members names ms) (both component (kind_from (field (ascii "kind") ms)) (string_from (field (ascii "value") ms))))) → TellsComponent s at f
    unfolding component_in
    by_members f g v w = by (as_object v) (index v w)
      where
        by : (o : Option (List Member)) → IndexOf 12 s (parts 44 (ascii "kind,value")) xs r o
            → ComponentIs s f (chain o λ ms. provided (only_members names ms) (both component (kind_from (field (ascii "kind") ms)) (string_from (field (ascii "value") ms))))
        by none h = let z : ◌≡◌ {A = ℕ} 0 1 = cc in absurd (omega arith)
        by (some ms) h =
            let l0 : 0 < length names = omega arith in
            let l1 : 1 < length names = omega arith in
            g ms (subst (Slot 12 s (get_or xs 0 0)) (first_field names 0 l0 no-first ms) (slot_of ms h.1 0))
            (subst (Slot 12 s (get_or xs 1 0)) (first_field names 1 l1 differ ms) (slot_of ms h.1 1)) (slot_of ms h.1 2)

    only-is : (ms : List Member) → Slot 12 s (get_or xs 2 0) (first_at names 2 ms) → only_members names ms ≡ eqb (get_or xs 2 0) 0
    unfolding only_members
    only-is ms h = first-other names ms ∙ sym h.there

    pub object-strange : (get_or xs 2 0 ≡ 0 → ⊥) → TellsComponent s at (Err no_card)
    object-strange n = by_members (Err no_card) (λ ms a b c.
        subst (ComponentIs s (Err no_card)) (sym (ap (λ (t : Bool). provided t (both component (kind_from (field (ascii "kind") ms)) (string_from (field (ascii "value") ms)))) (only-is ms c ∙ ne_eqb (get_or xs 2 0) 0 n))) refl)

    pub object_of : get_or xs 2 0 ≡ 0 → (f : Finding) → TellsSlots s (get_or xs 0 0) (get_or xs 1 0) f → TellsComponent s at f
    object_of z f t = by_members f (λ ms a b c.
        subst (ComponentIs s f) (sym (ap (λ (t : Bool). provided t (both component (kind_from (field (ascii "kind") ms)) (string_from (field (ascii "value") ms)))) (only-is ms c ∙ eq-eqb (get_or xs 2 0) 0 z)))
        (t (field (ascii "kind") ms) (field (ascii "value") ms) a b))

-- ---- the array

module _ (s : Bytes) (at i b : ℕ) (h : Passes is_space s at i) (e : b ≡ byte_at s i) where
  pub opens_not : (b ≡ 91 → ⊥) → OpensAs s at (Err no_card)
  opens_not n v w = not-array 13 s at i b h e n v w

  module _ (q : b ≡ 91) (j c : ℕ) (k : Passes is_space s (i + 1) j) (f : c ≡ byte_at s j) where
    pub opens-empty : c ≡ 93 → OpensAs s at (Ok None)
    opens-empty z v w = empty-array 13 s at i b h e q j c k f z v w

    pub opens_at : (c ≡ 93 → ⊥) → OpensAs s at (Ok (Some j))
    opens_at n v w = let u = array-elements 13 s at i b h e q j c k f n v w in record { units = u.0; elems = u.1; rest = u.2; read = u.3; are = u.4; is = u.5 }
