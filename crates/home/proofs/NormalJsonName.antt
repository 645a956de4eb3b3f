-- name: the components by kind and what is left of them, as the normal form has it.
use mathlib.Core.Path.{◌≡◌, refl, sym, ap, ap₂, ◌∙◌}
use mathlib.Core.Bool.{Bool, true, false, ◌&&◌, ◌||◌, not}
use mathlib.Core.List.{List, [], ◌∷◌, ◌++◌, map}
use mathlib.Core.Option
use mathlib.Core.Option.{Option, none, some}
use Prim.Native.Nat.{ℕ}
use lib.Dec.{eqb, ltb}
use borrow.Author.Tests.{eqb-true}
use Rattle.text.specs.Choice.{with-some, is_some, chain}
use Rattle.text.specs.Bytes.{Bytes, ascii, any, empty, same, flat, keep, each}
use Rattle.text.proofs.Cases.{by_bool, by_below, up_to, not-both, and_left}
use Rattle.json_text.specs.Tree.{Json, jstr, Member, member, field, object, array, as_string, as_array, as_object}
use Rattle.convert.specs.Table.{component_kinds, position}
use Rattle.convert.specs.Model.{has_parts}
use Rattle.convert.specs.Value.{filled}
use Rattle.convert.specs.FromJson.{only_members, Component, component, component_of, component_in, of_kind, by_kind, Name, is_false, name_from}
use Rattle.convert.specs.ToJson.{where', where_some, components_of, name_json}
use Rattle.convert.specs.NormalJson.{items_of, as_is, unless_gone, is_component, component_tree, components_form, name_form}
use Rattle.convert.proofs.NameJson.{kind_at, component_json}
use Rattle.home.proofs.Known.{on_provided, on_chain, on_map, on_both, on_none, on_each, on_optional}
use Rattle.home.proofs.Positions.{position-inside, position-name}
use Rattle.home.proofs.Shapes.{string-inv, gone}

-- ---- one component

-- the kinds differ
same_kind : (i k : ℕ) → ltb i 7 ≡ true → ltb k 7 ≡ true → same (kind_at i) (kind_at k) ≡ eqb i k
unfolding same
same_kind i k h l =
    by_below (λ i. same (kind_at i) (kind_at k)) (λ i. eqb i k) i 7 (by_below (λ k. map (λ i. same (kind_at i) (kind_at k)) (up_to 7)) (λ k. map (λ i. eqb i k) (up_to 7)) k 7 refl (λ n. not-both l n)) (λ n. not-both h n)

-- the object that a component is, seen through its members
abbrev Shown : Json → ℕ → Bytes → Type 0
Shown j k v = ((i : ℕ) → ltb i 7 ≡ true → is_component (kind_at i) j ≡ eqb i k && filled v) × (component_tree j ≡ component_json (kind_at k) v)

shown : (j : Json) (ms : List Member) (kj vj : Json) (s v : Bytes) (k : ℕ) → as_object j ≡ some ms → field (ascii "kind") ms ≡ some kj → as_string kj ≡ some s → position (same s) component_kinds ≡ some k
    → field (ascii "value") ms ≡ some vj → as_string vj ≡ some v → Shown j k v
unfolding is_component
shown j ms kj vj s v k o f g p h e =
    let n : s ≡ kind_at k = position-name s component_kinds k p in (
      λ i l. rw (o, f, g, h, e, n, same_kind i k l (position-inside (same s) component_kinds k p)),
      rw (o, f, h, string-inv kj s g, string-inv vj v e, n),
    )

on_component {ℓ} : {P : Type ℓ} (j : Json) (c : Component) → component_of j ≡ some c → ((k : ℕ) (v : Bytes) → component k v ≡ c → Shown j k v → P) → P
unfolding component_in
on_component j c e go =
    on_chain (as_object j) _ e λ ms o r.
    on_provided (only_members (ascii "kind" ∷ ascii "value" ∷ []) ms) _ r λ t b.
    on_both component _ _ b λ k v p q i.
    on_chain (field (ascii "kind") ms) _ p λ kj f u.
    on_chain (as_string kj) _ u λ s g w.
    on_chain (field (ascii "value") ms) as_string q λ vj h a.
    go k v i (shown j ms kj vj s v k o f g w h a)

-- ---- all of one kind

of-kind : (i : ℕ) → ltb i 7 ≡ true → (js : List Json) (cs : List Component) → each component_of js ≡ some cs
    → map (component_json (kind_at i)) (flat (map (of_kind i) cs)) ≡ map component_tree (keep (is_component (kind_at i)) js)
unfolding flat keep
of-kind i l [] cs e = on_none component_of e (λ n. rw (← n))
of-kind i l (j ∷ js) cs e =
    on_each component_of j js e λ c cs p q r.
    on_component j c p λ k v s w.
    let ih = of-kind i l js cs q in
    rw (← r, ← s, w.0 i l)
    (by_bool (eqb i k && filled v)
    (λ t. rw t (ap₂ ◌∷◌ (ap (λ (x : ℕ). component_json (kind_at x) v) (eqb-true i k (and_left _ _ t)) ∙ sym w.1) ih))
    (λ t. rw t ih))

-- ---- all components

components : (js : List Json) (cs : List Component) → each component_of js ≡ some cs → components_of component_kinds (by_kind cs) ≡ components_form js
unfolding components_of by_kind components_form flat
components js cs e =
    rw (of-kind 0 refl js cs e, of-kind 1 refl js cs e, of-kind 2 refl js cs e, of-kind 3 refl js cs e, of-kind 4 refl js cs e, of-kind 5 refl js cs e, of-kind 6 refl js cs e)

-- as many parts as kinds
abbrev Even : List Bytes → List (List Bytes) → Type 0
Even [] [] = Unit {0}
Even [] (p ∷ ps) = ⊥
Even (k ∷ ks) [] = ⊥
Even (k ∷ ks) (p ∷ ps) = Even ks ps

some_left : (ks : List Bytes) (ps : List (List Bytes)) → Even ks ps → has_parts ps ≡ not (empty (components_of ks ps))
unfolding has_parts components_of any
some_left [] [] h = refl
some_left [] (p ∷ ps) h = absurd h
some_left (k ∷ ks) [] h = absurd h
some_left (k ∷ ks) ([] ∷ ps) h = some_left ks ps h
some_left (k ∷ ks) ((v ∷ vs) ∷ ps) h = refl

even-kinds : (cs : List Component) → Even component_kinds (by_kind cs)
unfolding by_kind
even-kinds cs = tt

pub components-part : (js : List Json) (cs : List Component) → each component_of js ≡ some cs
    → where' (has_parts (by_kind cs)) (member (ascii "components") (array (components_of component_kinds (by_kind cs)))) ≡ unless_gone (ascii "components") array (components_form js)
components-part js cs e =
    gone (ascii "components") array (components_of component_kinds (by_kind cs)) (has_parts (by_kind cs)) (some_left component_kinds (by_kind cs) (even-kinds cs))
    ∙ ap (unless_gone (ascii "components") array) (components js cs e)

-- ---- the name

-- a name goes where neither is left
name-left : (f : Option Bytes) (b : Bool) (g : Bytes → Member) (m : Member) (n : Bytes)
    → where' (is_some f || b) (member n (object (where_some f g ++ where' b m))) ≡ unless_gone n object (where_some f g ++ where' b m)
name-left (some v) b g m n = refl
name-left none true g m n = refl
name-left none false g m n = refl

full-part : (ms : List Member) (f : Option Bytes) → with-some (field (ascii "full") ms) (λ v. Option.map some (as_string v)) (some none) ≡ some f
    → where_some f (λ v. member (ascii "full") (jstr v)) ≡ as_is (ascii "full") ms
full-part ms f e =
    on_optional (field (ascii "full") ms) none (λ v. Option.map some (as_string v)) e
    (λ n d. rw (n, ← d))
    (λ j h q. on_map some (as_string j) q (λ a p r. rw (h, ← r, string-inv j a p)))

items-read : (ms : List Member) (cs : List Component) → with-some (field (ascii "components") ms) (λ v. chain (as_array v) (each component_of)) (some []) ≡ some cs
    → each component_of (with-some (field (ascii "components") ms) items_of []) ≡ some cs
unfolding each
items-read ms cs e =
    on_optional (field (ascii "components") ms) [] (λ v. chain (as_array v) (each component_of)) e
    (λ n d. rw (n, ← d))
    (λ j h q. on_chain (as_array j) (each component_of) q (λ js p r. rw (h, p) r))

module _ (j : Json) (ms : List Member) (f : Option Bytes) (cs : List Component) where
  parts-form : as_object j ≡ some ms → with-some (field (ascii "full") ms) (λ v. Option.map some (as_string v)) (some none) ≡ some f
      → with-some (field (ascii "components") ms) (λ v. chain (as_array v) (each component_of)) (some []) ≡ some cs
      → where_some f (λ v. member (ascii "full") (jstr v)) ++ where' (has_parts (by_kind cs)) (member (ascii "components") (array (components_of component_kinds (by_kind cs)))) ≡ name_form j
  unfolding name_form
  parts-form o p q = rw o (ap₂ ◌++◌ (full-part ms f p) (components-part (with-some (field (ascii "components") ms) items_of []) cs (items-read ms cs q)))

  both-form : as_object j ≡ some ms → with-some (field (ascii "full") ms) (λ v. Option.map some (as_string v)) (some none) ≡ some f
      → with-some (field (ascii "components") ms) (λ v. chain (as_array v) (each component_of)) (some []) ≡ some cs
      → where' (is_some f || has_parts (by_kind cs)) (member (ascii "name") (name_json f (by_kind cs))) ≡ unless_gone (ascii "name") object (name_form j)
  unfolding name_json
  both-form o p q =
      name-left f (has_parts (by_kind cs)) (λ v. member (ascii "full") (jstr v)) (member (ascii "components") (array (components_of component_kinds (by_kind cs)))) (ascii "name")
      ∙ ap (unless_gone (ascii "name") object) (parts-form o p q)

pub name-form : (j : Json) (n : Name) → name_from j ≡ some n
    → where' (is_some n.full || has_parts n.parts) (member (ascii "name") (name_json n.full n.parts)) ≡ unless_gone (ascii "name") object (name_form j)
unfolding name_from
name-form j n e =
    on_chain (as_object j) _ e λ ms o r.
    on_provided (only_members (ascii "full" ∷ ascii "components" ∷ ascii "isOrdered" ∷ []) ms && (is_some (field (ascii "full") ms) || is_some (field (ascii "components") ms))) _ r λ t b.
    on_chain (with-some (field (ascii "isOrdered") ms) is_false (some true)) _ b λ ordered i u.
    on_both _ (with-some (field (ascii "full") ms) _ _) (with-some (field (ascii "components") ms) _ _) u λ f cs p q w.
    rw (← w) (both-form j ms f cs o p q)
