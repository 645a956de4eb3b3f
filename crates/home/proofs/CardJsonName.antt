-- A name is read exactly where `CardJson` takes it, and what is read of it is there or not as `CardJson` says.
use mathlib.Core.Path.{◌≡◌, refl, sym, ap, ap₂, ◌∙◌}
use mathlib.Core.Bool.{Bool, true, false, ◌&&◌, ◌||◌, not}
use mathlib.Core.List.{List, [], ◌∷◌, map}
use mathlib.Core.Option
use mathlib.Core.Option.{Option, none, some}
use Prim.Native.Nat.{ℕ, suc}
use lib.Dec.{eqb, ltb}
use Rattle.text.specs.Choice.{with-some, is_some, chain}
use Rattle.text.specs.Bytes.{Bytes, ascii, all, any, empty, same, among, flat, each}
use Rattle.text.proofs.Cases.{by_bool, by_below, up_to, not-both}
use Rattle.json_text.specs.Tree.{Json, Member, name_of, field, as_string, as_array, as_object}
use Rattle.convert.specs.Table.{Part, name_row, kinds_of, position}
use Rattle.convert.specs.Model.{has_parts}
use Rattle.convert.specs.FromJson.{only_members, optional, required, Component, component, component_in, component_of, of_kind, values_from, by_kind, Name, is_false, name_from}
use Rattle.home.specs.CardJson as C
use Rattle.home.proofs.Known.{on_provided, on_chain, on_map, on_both, on_optional}
use Rattle.home.proofs.Positions.{position-inside}
use Rattle.home.proofs.CardJsonTests.{and_one, and_none, and-swap, and_again, some-provided, some-map, some-both, some_chain, some-optional, chain-and, some-each, any-each, any-nothing, found_name, is_false_lem}

-- ---- components

abbrev kinds : List Bytes
kinds = kinds_of name_row

component-is : (j : Json) → is_some (component_of j) ≡ C.an_object C.is_component j
unfolding component_in C.shaped all only_members
component-is j =
    some_chain (as_object j) _ C.is_component λ ms.
    some-provided (only_members (ascii "kind" ∷ ascii "value" ∷ []) ms) _
    ∙ ap (λ (b : Bool). all (λ m. among (name_of m) (ascii "kind" ∷ ascii "value" ∷ [])) ms && b)
    (some-both component (required (ascii "kind") (λ k. chain (as_string k) λ s. position (same s) kinds) ms) (required (ascii "value") as_string ms)
    ∙ ap₂ ◌&&◌ (some_chain (field (ascii "kind") ms) _ _ (λ j. some_chain (as_string j) _ (λ k. among k kinds) (λ k. found_name k kinds)))
    (some_chain (field (ascii "value") ms) as_string C.any_string (λ j. refl) ∙ sym (and_one (C.obeyed ms (C.must (ascii "value") C.any_string)))))

-- ---- the name

pub name-is : (j : Json) → is_some (name_from j) ≡ C.an_object C.a_name j
unfolding name_from C.a_name C.shaped all only_members
name-is j =
    some_chain (as_object j) _ C.a_name λ ms.
    let only : Bool = all (λ m. among (name_of m) (ascii "full" ∷ ascii "components" ∷ ascii "isOrdered" ∷ [])) ms in
    let there : Bool = is_some (field (ascii "full") ms) || is_some (field (ascii "components") ms) in
    let o : Bool = C.obeyed ms (C.may (ascii "isOrdered") C.a_false) in
    let f : Bool = C.obeyed ms (C.may (ascii "full") C.any_string) in
    let c : Bool = C.obeyed ms (C.may (ascii "components") (C.an_array (all (C.an_object C.is_component)))) in
    some-provided (only && there) _
    ∙ ap (λ (b : Bool). (only && there) && b)
    (chain-and (optional (ascii "isOrdered") true is_false ms) _ o (f && c) (some-optional (field (ascii "isOrdered") ms) is_false true C.a_false is_false_lem)
    (λ a e. some-both _ (optional (ascii "full") none (λ v. Option.map some (as_string v)) ms) (optional (ascii "components") [] (λ v. chain (as_array v) (each component_of)) ms)
    ∙ ap₂ ◌&&◌ (some-optional (field (ascii "full") ms) _ none C.any_string (λ v. some-map some (as_string v)))
    (some-optional (field (ascii "components") ms) _ [] _ (λ v. some_chain (as_array v) (each component_of) _ (some-each component_of _ component-is)))))
    ∙ moved only there o f c
  where
    moved : (a b o f c : Bool) → (a && b) && (o && (f && c)) ≡ (a && (f && (c && (o && true)))) && b
    moved false b o f c = refl
    moved true false o f c = sym (and_none (f && (c && (o && true))))
    moved true true o f c = and-swap o (f && c) ∙ and_again f c o ∙ ap (λ (x : Bool). f && (c && x)) (sym (and_one o)) ∙ sym (and_one (f && (c && (o && true))))

-- ---- what is left of it

abbrev read_full : List Member → Option (Option Bytes)
read_full ms = optional (ascii "full") none (λ v. Option.map some (as_string v)) ms

abbrev read_components : List Member → Option (List Component)
read_components ms = optional (ascii "components") [] (λ v. chain (as_array v) (each component_of)) ms

on_name {ℓ} : {P : Type ℓ} (j : Json) (n : Name) → name_from j ≡ some n
    → ((ms : List Member) (f : Option Bytes) (cs : List Component) → as_object j ≡ some ms → read_full ms ≡ some f → read_components ms ≡ some cs → record { full = f; parts = by_kind cs } ≡ n → P) → P
unfolding name_from
on_name j n e go =
    on_chain (as_object j) _ e λ ms o r.
    on_provided (only_members (ascii "full" ∷ ascii "components" ∷ ascii "isOrdered" ∷ []) ms && (is_some (field (ascii "full") ms) || is_some (field (ascii "components") ms))) _ r λ t b.
    on_chain (optional (ascii "isOrdered") true is_false ms) _ b λ a p q.
    on_both (λ f cs. record { full = f; parts = by_kind cs }) (read_full ms) (read_components ms) q λ f cs x y i.
    go ms f cs o x y i

-- the members of an object, none where it is anything else
abbrev members_in : Json → List Member
members_in j = with-some (as_object j) (λ os. os) []

-- the full name
pub full-left : (j : Json) (n : Name) → name_from j ≡ some n → is_some n.full ≡ is_some (field (ascii "full") (members_in j))
full-left j n e = on_name j n e λ ms f cs o x y i. rw (o, ← i) (left ms f x)
  where
    left : (ms : List Member) (f : Option Bytes) → read_full ms ≡ some f → is_some f ≡ is_some (field (ascii "full") ms)
    left ms f x = on_optional (field (ascii "full") ms) none _ x (λ z d. rw (z, ← d)) (λ v z d. on_map some (as_string v) d λ s g i. rw (z, ← i))

-- a component of the i-th kind, with a value
abbrev has_value : ℕ → Component → Bool
has_value i (component k v) = eqb i k && C.filled v

of-kind : (i : ℕ) (cs : List Component) → not (empty (flat (map (of_kind i) cs))) ≡ any (has_value i) cs
unfolding flat any
of-kind i [] = refl
of-kind i (component k v ∷ cs) = by_bool (eqb i k && C.filled v) (λ e. rw e) (λ e. rw e (of-kind i cs))

-- the places of a row's parts
abbrev places_from : ℕ → List Part → List ℕ
places_from i [] = []
places_from i (p ∷ row) = i ∷ places_from (suc i) row

in_row : (i : ℕ) (row : List Part) (cs : List Component) → any (λ vs. not (empty vs)) (values_from i row cs) ≡ any (λ i. any (has_value i) cs) (places_from i row)
unfolding any
in_row i [] cs = refl
in_row i (p ∷ row) cs = ap₂ ◌||◌ (of-kind i cs) (in_row (suc i) row cs)

any-or : {A : Type 0} (p q : A → Bool) (xs : List A) → any (λ x. p x || q x) xs ≡ any p xs || any q xs
unfolding any
any-or p q [] = refl
any-or p q (x ∷ xs) = ap (λ (b : Bool). (p x || q x) || b) (any-or p q xs) ∙ crossed (p x) (q x) (any p xs) (any q xs)
  where
    crossed : (a b c d : Bool) → (a || b) || (c || d) ≡ (a || c) || (b || d)
    crossed true b c d = refl
    crossed false true true d = refl
    crossed false true false d = refl
    crossed false false c d = refl

any-any : {A B : Type 0} (r : A → B → Bool) (xs : List A) (ys : List B) → any (λ x. any (r x) ys) xs ≡ any (λ y. any (λ x. r x y) xs) ys
unfolding any
any-any r [] ys = sym (any-nothing ys)
any-any r (x ∷ xs) ys = ap (λ (b : Bool). any (r x) ys || b) (any-any r xs ys) ∙ sym (any-or (r x) (λ y. any (λ x. r x y) xs) ys)

-- every place of a kind is a place of the row
abbrev any_place : Component → Bool
any_place c = any (λ i. has_value i c) (places_from 0 name_row)

any_place_lem : (k : ℕ) (v : Bytes) → ltb k 7 ≡ true → any_place (component k v) ≡ C.filled v
unfolding any
any_place_lem k v h = by_below (λ k. any_place (component k v)) (λ k. C.filled v) k 7 (by (C.filled v)) (λ e. not-both h e)
  where
    by : (b : Bool) → map (λ k. any (λ i. eqb i k && b) (places_from 0 name_row)) (up_to 7) ≡ map (λ k. b) (up_to 7)
    by true = refl
    by false = refl

component-filled : (j : Json) (c : Component) → component_of j ≡ some c → any_place c ≡ C.an_object (C.has_text (ascii "value")) j
unfolding component_in
component-filled j c e =
    on_chain (as_object j) _ e λ ms o r.
    on_provided (only_members (ascii "kind" ∷ ascii "value" ∷ []) ms) _ r λ t b.
    on_both component _ _ b λ k v p q i.
    on_chain (field (ascii "kind") ms) _ p λ kj f u.
    on_chain (as_string kj) _ u λ s g w.
    on_chain (field (ascii "value") ms) as_string q λ vj h a.
    rw (← i, o, h, a) (any_place_lem k v (position-inside (same s) kinds k w))

-- a component that is not empty
abbrev some_value : C.Rule
some_value = C.must (ascii "components") (C.an_array (any (C.an_object (C.has_text (ascii "value")))))

components_left : (ms : List Member) (cs : List Component) → read_components ms ≡ some cs → any any_place cs ≡ C.obeyed ms some_value
unfolding any
components_left ms cs y =
    on_optional (field (ascii "components") ms) [] _ y (λ z d. rw (z, ← d))
    (λ v z d. on_chain (as_array v) (each component_of) d λ js g w. rw (z, g) (any-each component_of any_place _ component-filled js cs w))

pub parts-left : (j : Json) (n : Name) → name_from j ≡ some n → has_parts n.parts ≡ C.obeyed (members_in j) some_value
unfolding has_parts by_kind
parts-left j n e = on_name j n e λ ms f cs o x y i. rw (o, ← i) (in_row 0 name_row cs ∙ any-any has_value (places_from 0 name_row) cs ∙ components_left ms cs y)
