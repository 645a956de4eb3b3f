-- A name by its members, and by its slot.
use mathlib.Core.Path.{◌≡◌, refl, sym, ap, subst, ◌∙◌}
use Rattle.to_card_pen.specs.Refusal.{no_card}
use Rattle.std.specs.Prelude.{Err, Ok, Some, None}
use mathlib.Core.Bool.{Bool, true, false, ◌&&◌, ◌||◌, not}
use mathlib.Core.List.{List, [], ◌∷◌}
use mathlib.Core.Option.{Option, none, some, map}
use Prim.Native.Nat.{ℕ, zero, suc, ◌≤◌, ◌<◌}
use native.Mathlib.Omega.{arith}
use lib.Dec.{eqb}
use lib.ListN.{length, get_or, drop_of_length-le}
use borrow.Author.Tests.{eqb-true}
use Rattle.text.specs.Choice.{is_some, both, chain, provided}
use Rattle.text.specs.Bytes.{Bytes, ascii, any, among, same, parts, on_head}
use Rattle.text.proofs.Cases.{and_left, and_right}
use Rattle.text.proofs.Readers.{not-bad}
use Rattle.json_text.specs.Tree.{Json, Member, field, as_object}
use Rattle.json_text.specs.Syntax.{value}
use Rattle.json_index.specs.Index.{first_at, Slot, Clear, Indexed, IndexOf, Indexes}
use Rattle.json_index.proofs.Fields.{first_field, first-other}
use Rattle.json_index.proofs.Objects.{at-inv}
use Rattle.convert.specs.FromJson.{only_members, Component, Name, name_from}
use Rattle.to_card_value.specs.Values.{StringIs}
use Rattle.to_card_lines.specs.Lines.{Part, PartAs, Laid}
use Rattle.to_card_lines.proofs.Parts.{none-wrong}
use Rattle.to_card_head.proofs.Slots.{slot-none, slot-some}
use Rattle.to_card_parts.specs.Parts.{RowsFrom}
use Rattle.to_card_name.specs.Name.{ordered_in, full_in, components_in, name_of, name_lines, TellsUnordered, FullAs, TellsFull, ListedIn, ListedAs, ListsAs, PutsAlone, PutsBoth, PutsList, name_from_slots, PutsSlots, name_given, PutsName, Full, Listing, rows_at}
use Rattle.to_card_name.proofs.Members.{no_value}
use Rattle.to_card_name.proofs.Rows.{no-kinds}

pub clear-four : Clear (0 ∷ 0 ∷ 0 ∷ 0 ∷ [])
clear-four zero = refl
clear-four (suc zero) = refl
clear-four (suc (suc zero)) = refl
clear-four (suc (suc (suc zero))) = refl
clear-four (suc (suc (suc (suc i)))) = refl

pub clear-seven : Clear (0 ∷ 0 ∷ 0 ∷ 0 ∷ 0 ∷ 0 ∷ 0 ∷ [])
clear-seven zero = refl
clear-seven (suc zero) = refl
clear-seven (suc (suc zero)) = refl
clear-seven (suc (suc (suc i))) = clear-four i

pub listed_in : {s : Bytes} {kinds values : List ℕ} {j n : ℕ} (r : Listing) → ListedIn s kinds values r → r ≡ rows_at j n → (j ≤ length s) × RowsFrom s j kinds values n
listed_in {s} {kinds} {values} r h e = subst (ListedIn s kinds values) e h

-- ---- by the components

module _ (s : Bytes) (full slot : ℕ) (room : Bytes) (m : List ℕ) (l : Listing) (lists : ListsAs s slot m l) where
  listed : (c : Listing) → l ≡ c → (o : Option Json) → Slot 14 s slot o → ListedAs s m c (components_in o)
  listed c e o h = subst (λ (x : Listing). ListedAs s m x (components_in o)) e (lists o h)

  abbrev lines_of : Option Bytes → Option (List Component) → Option Part
  lines_of f x = map (λ cs. name_lines (name_of f cs)) x

  pub list-twelve : l ≡ Err no_card → (after : Bytes) → PutsList s full slot room (Err no_card) after
  list-twelve e after f h o w = none-wrong room after (lines_of f (components_in o)) (ap (lines_of f) (listed (Err no_card) e o w))

  pub list-alone : l ≡ Ok None → (r : Laid) (after : Bytes) → PutsAlone s full room r after → PutsList s full slot room r after
  list-alone e r after p f h o w = subst (PartAs room r after) (sym (ap (lines_of f) (listed (Ok None) e o w))) (p f h)

  pub list-both : (j n : ℕ) → l ≡ rows_at j n → (r : Laid) (after : Bytes) → PutsBoth s full j m room r after → PutsList s full slot room r after
  list-both j n e r after p f h o w = let x = listed (rows_at j n) e o w in subst (PartAs room r after) (sym (ap (lines_of f) x.1)) (p f h x.0 x.2 x.3)

-- ---- by all members

abbrev part_of : Bool → Option Bool → Option (Option Bytes) → Option (List Component) → Option Part
part_of b i f c = map name_lines (provided b (chain i λ ordered. both name_of f c))

none-tested : (i : Option Bool) (f : Option (Option Bytes)) (c : Option (List Component)) → part_of false i f c ≡ none
none-tested i f c = refl

none-ordered : (b : Bool) (f : Option (Option Bytes)) (c : Option (List Component)) → part_of b none f c ≡ none
none-ordered true f c = refl
none-ordered false f c = refl

none-full : (b : Bool) (i : Option Bool) (c : Option (List Component)) → part_of b i none c ≡ none
none-full true none c = refl
none-full true (some x) c = refl
none-full false i c = refl

some-full : (x : Bool) (f : Option Bytes) (c : Option (List Component)) → part_of true (some x) (some f) c ≡ map (λ cs. name_lines (name_of f cs)) c
some-full x f none = refl
some-full x f (some cs) = refl

and-false : (a : Bool) → a && false ≡ false
and-false true = refl
and-false false = refl

not_some : {A : Type 0} (o : Option A) → false ≡ is_some o → o ≡ none
not_some none e = refl
not_some (some a) e = let z : ◌≡◌ {A = ℕ} 0 1 = cc in absurd (omega arith)

is-there : {A : Type 0} (o : Option A) → true ≡ is_some o → (a : A) × (o ≡ some a)
is-there none e = let z : ◌≡◌ {A = ℕ} 0 1 = cc in absurd (omega arith)
is-there (some a) e = (a, refl)

module _ (s : Bytes) (full components ordered other : ℕ) (room : Bytes) where
  abbrev wanted : Option Json → Option Json → Option Json → Option Json → Option Part
  wanted f c i x = map name_lines (name_from_slots f c i x)

  pub slots-other : (other ≡ 0 → ⊥) → (after : Bytes) → PutsSlots s full components ordered other room (Err no_card) after
  unfolding name_from_slots
  slots-other n after f c i x sf sc si sx =
      let v = slot-some 14 s other x sx n in
      none-wrong room after (wanted f c i x) (ap (λ (o : Option Json). part_of (not (is_some o) && (is_some f || is_some c)) (ordered_in i) (full_in f) (components_in c)) v.1 ∙ none-tested (ordered_in i) (full_in f) (components_in c))

  pub slots-neither : (eqb full 0 && eqb components 0) ≡ true → (after : Bytes) → PutsSlots s full components ordered other room (Err no_card) after
  unfolding name_from_slots
  slots-neither e after f c i x sf sc si sx =
      let a : eqb full 0 ≡ true = and_left (eqb full 0) (eqb components 0) e in
      let b : eqb components 0 ≡ true = and_right (eqb full 0) (eqb components 0) e in
      let y : f ≡ none = slot-none 14 s full f sf (eqb-true full 0 a) in
      let z : c ≡ none = slot-none 14 s components c sc (eqb-true components 0 b) in
      none-wrong room after (wanted f c i x)
      (ap (λ (o : Option Json). part_of (not (is_some x) && (is_some o || is_some c)) (ordered_in i) (full_in f) (components_in c)) y
      ∙ ap (λ (o : Option Json). part_of (not (is_some x) && (false || is_some o)) (ordered_in i) (full_in f) (components_in c)) z
      ∙ ap (λ (t : Bool). part_of t (ordered_in i) (full_in f) (components_in c)) (and-false (not (is_some x))) ∙ none-tested (ordered_in i) (full_in f) (components_in c))

  pub slots-ordered : (b : Bool) → TellsUnordered s ordered b → b ≡ false → (after : Bytes) → PutsSlots s full components ordered other room (Err no_card) after
  unfolding name_from_slots
  slots-ordered b t e after f c i x sf sc si sx =
      none-wrong room after (wanted f c i x)
      (ap (λ (o : Option Bool). part_of (not (is_some x) && (is_some f || is_some c)) o (full_in f) (components_in c)) (not_some (ordered_in i) (sym e ∙ t i si)) ∙ none-ordered (not (is_some x) && (is_some f || is_some c)) (full_in f) (components_in c))

  module _ (q : Full) (tells : TellsFull s full q) where
    pub slots-full : q ≡ Err no_card → (after : Bytes) → PutsSlots s full components ordered other room (Err no_card) after
    unfolding name_from_slots
    slots-full e after f c i x sf sc si sx =
        let y : full_in f ≡ none = subst (λ (z : Full). FullAs s z (full_in f)) e (tells f sf) in
        none-wrong room after (wanted f c i x)
        (ap (λ (o : Option (Option Bytes)). part_of (not (is_some x) && (is_some f || is_some c)) (ordered_in i) o (components_in c)) y ∙ none-full (not (is_some x) && (is_some f || is_some c)) (ordered_in i) (components_in c))

    module _ (no_other : other ≡ 0) (one-there : (eqb full 0 && eqb components 0) ≡ false) (b : Bool) (tells-ordered : TellsUnordered s ordered b) (unordered : b ≡ true) (r : Laid) (after : Bytes) where
      tested : (a b : Bool) (x y : Bool) → a ≡ not x → b ≡ not y → (a && b) ≡ false → (x || y) ≡ true
      tested a b true y e f h = refl
      tested a b false true e f h = refl
      tested a b false false e f h = let z : ◌≡◌ {A = ℕ} 0 1 = by a b e f h in absurd (omega arith)
        where
          by : (a b : Bool) → a ≡ true → b ≡ true → (a && b) ≡ false → ◌≡◌ {A = ℕ} 0 1
          by true true e f h = cc
          by true false e f h = cc
          by false b e f h = cc

      goes : (g : Option Bytes) (place : ℕ) → StringIs s place g → PutsList s place components room r after → (f c i x : Option Json) → Slot 14 s full f → Slot 14 s components c → Slot 14 s ordered i → Slot 14 s other x
          → full_in f ≡ some g → PartAs room r after (wanted f c i x)
      unfolding name_from_slots
      goes g place h puts f c i x sf sc si sx y =
          let u = is-there (ordered_in i) (sym unordered ∙ tells-ordered i si) in
          let a : is_some x ≡ false = ap is_some (slot-none 14 s other x sx no_other) in
          let there : (is_some f || is_some c) ≡ true = tested (eqb full 0) (eqb components 0) (is_some f) (is_some c) sf.there sc.there one-there in
          let k : (not (is_some x) && (is_some f || is_some c)) ≡ true = ap (λ (t : Bool). not t && (is_some f || is_some c)) a ∙ there in
          subst (PartAs room r after)
          (sym (ap (λ (t : Bool). part_of t (ordered_in i) (full_in f) (components_in c)) k ∙ ap (λ (o : Option Bool). part_of true o (full_in f) (components_in c)) u.1
          ∙ ap (λ (o : Option (Option Bytes)). part_of true (some u.0) o (components_in c)) y ∙ some-full u.0 g (components_in c)))
          (puts g h c sc)

      pub slots-absent : q ≡ Ok None → PutsList s 0 components room r after → PutsSlots s full components ordered other room r after
      slots-absent e p f c i x sf sc si sx = goes none 0 refl p f c i x sf sc si sx (subst (λ (z : Full). FullAs s z (full_in f)) e (tells f sf))

      pub slots_at : (place : ℕ) → q ≡ Ok (Some place) → PutsList s place components room r after → PutsSlots s full components ordered other room r after
      slots_at place e p f c i x sf sc si sx =
          let w : FullAs s (Ok (Some place)) (full_in f) = subst (λ (z : Full). FullAs s z (full_in f)) e (tells f sf) in
          goes (some w.0) place w.2 p f c i x sf sc si sx w.1

-- ---- by the slot

abbrev pub names : List Bytes
names = ascii "full" ∷ ascii "components" ∷ ascii "isOrdered" ∷ []

pub names-are : parts 44 (ascii "full,components,isOrdered") ≡ names
unfolding parts on_head
names-are = refl

pub new-0 : among (ascii "full") [] ≡ false
unfolding among any
new-0 = refl

new-1 : among (ascii "components") (ascii "full" ∷ []) ≡ false
unfolding among any same
new-1 = refl

new-2 : among (ascii "isOrdered") (ascii "full" ∷ ascii "components" ∷ []) ≡ false
unfolding among any same
new-2 = refl

module _ (s : Bytes) (slot : ℕ) (room : Bytes) where
  abbrev named : Option Json → Option Part
  named o = map name_lines (name_given o)

  pub name-absent : slot ≡ 0 → (r : Laid) (after : Bytes) → PutsAlone s 0 room r after → PutsName s slot room r after
  name-absent e r after p o h =
      let y : o ≡ none = slot-none 15 s slot o h e in
      subst (PartAs room r after) (ap (λ (ps : List (List Bytes)). some (name_lines (record { full = none; parts = ps }))) no-kinds ∙ sym (ap named y)) (p none refl)

  module _ (n : slot ≡ 0 → ⊥) where
    pub name-past : length s < slot → (after : Bytes) → PutsName s slot room (Err no_card) after
    name-past l after o h =
        let v = slot-some 15 s slot o h n in
        let u = at-inv 15 s slot v.0 v.2 in
        absurd (not-bad (sym (ap (value 15) (drop_of_length-le s {i = slot} (omega arith)) ∙ no_value 15) ∙ u.2))

    module _ (xs : List ℕ) (b : Bool) (index : Indexes 14 s slot (ascii "full,components,isOrdered") xs b) where
      abbrev by_members : Option (List Member) → Option Name
      by_members o = chain o λ ms.
          provided (only_members names ms && (is_some (field (ascii "full") ms) || is_some (field (ascii "components") ms)))
          (chain (ordered_in (field (ascii "isOrdered") ms)) λ ordered. both name_of (full_in (field (ascii "full") ms)) (components_in (field (ascii "components") ms)))

      by-object : (r : Laid) (after : Bytes) → ((o : Option (List Member)) → IndexOf 14 s (parts 44 (ascii "full,components,isOrdered")) xs b o → PartAs room r after (map name_lines (by_members o))) → PutsName s slot room r after
      unfolding name_from
      by-object r after g o h =
          let v = slot-some 15 s slot o h n in
          subst (PartAs room r after) (sym (ap named v.1)) (g (as_object v.0) (index v.0 v.2))

      pub name-object : b ≡ false → (after : Bytes) → PutsName s slot room (Err no_card) after
      name-object e after = by-object (Err no_card) after by
        where
          by : (o : Option (List Member)) → IndexOf 14 s (parts 44 (ascii "full,components,isOrdered")) xs b o → PartAs room (Err no_card) after (map name_lines (by_members o))
          by none h = refl
          by (some ms) h = let z : ◌≡◌ {A = ℕ} 0 1 = cc in absurd (omega arith)

      only-is : (ms : List Member) → only_members names ms ≡ not (is_some (first_at names 3 ms))
      unfolding only_members
      only-is ms = first-other names ms

      members-are : (ms : List Member) → by_members (some ms) ≡ name_from_slots (field (ascii "full") ms) (field (ascii "components") ms) (field (ascii "isOrdered") ms) (first_at names 3 ms)
      unfolding name_from_slots
      members-are ms = ap (λ (t : Bool). provided (t && (is_some (field (ascii "full") ms) || is_some (field (ascii "components") ms)))
          (chain (ordered_in (field (ascii "isOrdered") ms)) λ ordered. both name_of (full_in (field (ascii "full") ms)) (components_in (field (ascii "components") ms)))) (only-is ms)

      pub name-slots : b ≡ true → (r : Laid) (after : Bytes) → PutsSlots s (get_or xs 0 0) (get_or xs 1 0) (get_or xs 2 0) (get_or xs 3 0) room r after → PutsName s slot room r after
      name-slots e r after p = by-object r after by
        where
          slot_of : (ms : List Member) → Indexed 14 s (parts 44 (ascii "full,components,isOrdered")) xs ms → (i : ℕ) → Slot 14 s (get_or xs i 0) (first_at names i ms)
          slot_of ms h i = subst (λ (ns : List Bytes). Slot 14 s (get_or xs i 0) (first_at ns i ms)) names-are (h i)

          by : (o : Option (List Member)) → IndexOf 14 s (parts 44 (ascii "full,components,isOrdered")) xs b o → PartAs room r after (map name_lines (by_members o))
          by none h = let z : ◌≡◌ {A = ℕ} 0 1 = cc in absurd (omega arith)
          by (some ms) h =
              let l0 : 0 < length names = omega arith in
              let l1 : 1 < length names = omega arith in
              let l2 : 2 < length names = omega arith in
              subst (PartAs room r after) (sym (ap (map name_lines) (members-are ms)))
              (p (field (ascii "full") ms) (field (ascii "components") ms) (field (ascii "isOrdered") ms) (first_at names 3 ms)
              (subst (Slot 14 s (get_or xs 0 0)) (first_field names 0 l0 new-0 ms) (slot_of ms h.1 0))
              (subst (Slot 14 s (get_or xs 1 0)) (first_field names 1 l1 new-1 ms) (slot_of ms h.1 1))
              (subst (Slot 14 s (get_or xs 2 0)) (first_field names 2 l2 new-2 ms) (slot_of ms h.1 2)) (slot_of ms h.1 3))
