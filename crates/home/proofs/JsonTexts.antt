-- Strings of a card from sound JSON: the name and what an entry holds.
use mathlib.Core.Path.{◌≡◌, refl, subst}
use mathlib.Core.Bool.{Bool, true, ◌&&◌, ◌||◌}
use mathlib.Core.List.{List, [], ◌∷◌, map}
use mathlib.Core.Option
use mathlib.Core.Option.{Option, none, some}
use Prim.Native.Nat.{ℕ}
use lib.ListN.{length}
use lib.Dec.{eqb}
use Rattle.text.specs.Choice.{with-some, is_some, chain}
use Rattle.text.specs.Bytes.{Bytes, ascii, any, all, same, keep, flat, each}
use Rattle.text.specs.Utf8.{utf8}
use Rattle.text.proofs.Cases.{by_bool, and_right, and-true}
use Rattle.text.proofs.Choices.{some_same, provided-inv, chain-inv, map-inv, both-inv}
use Rattle.text.proofs.Lists.{all_cons, keep-passes}
use Rattle.json_text.specs.Tree.{Json, Member, field, as_string, as_array, as_object}
use Rattle.json_text.proofs.Sound.{Sound}
use Rattle.convert.specs.Table.{Form, text, single, uri, phone, organization, component_kinds, position}
use Rattle.convert.specs.Value.{filled}
use Rattle.convert.specs.FromJson.{only_members, required, optional, Component, component, component_of, component_in, of_kind, by_kind, Name, nameless, is_false, name_from, unit_from, organization_from, content_from}
use Rattle.convert.proofs.Forms.{formed}
use Rattle.home.proofs.Alls.{All, all-test, all-kept, all-flat, each-gives}
use Rattle.home.proofs.SoundLists.{SoundMember, string-sound, array-sound, object-sound, field-sound, optional-holds}
use Rattle.home.proofs.Clean.{utf8-none}

-- ---- one string

pub required-utf8 : (d : ℕ) (n : Bytes) (ms : List Member) (v : Bytes) → All (SoundMember d) ms → required n as_string ms ≡ some v → utf8 v ≡ true
required-utf8 d n ms v h e = let i = chain-inv (field n ms) as_string e in string-sound d i.0 v (field-sound d n ms i.0 h i.1) i.2

-- ---- the name

abbrev Utf8Value : Component → Type 0
Utf8Value (component k v) = utf8 v ≡ true

component-utf8 : (d : ℕ) (j : Json) (c : Component) → Sound d j → component_of j ≡ some c → Utf8Value c
unfolding component_in
component-utf8 d j c h e =
    let i = chain-inv (as_object j) _ e in
    let o = object-sound d j i.0 h i.1 in
    let q = provided-inv (only_members (ascii "kind" ∷ ascii "value" ∷ []) i.0) _ i.2 in
    let k : Option ℕ = required (ascii "kind") (λ k. chain (as_string k) λ s. position (same s) component_kinds) i.0 in
    let b = both-inv component k (required (ascii "value") as_string i.0) q.1 in
    subst Utf8Value b.4 (required-utf8 o.0 (ascii "value") i.0 b.1 o.3 b.3)

abbrev pub Whole : Bytes → Type 0
Whole v = filled v && utf8 v ≡ true

of-kind-whole : (i : ℕ) (c : Component) → Utf8Value c → All Whole (of_kind i c)
of-kind-whole i (component k v) h =
    by_bool (eqb i k && filled v) (λ e. rw e (and-true (and_right (eqb i k) _ e) h, tt)) (λ e. rw e tt)

kind-whole : (cs : List Component) → All Utf8Value cs → (i : ℕ) → all (λ v. filled v && utf8 v) (flat (map (of_kind i) cs)) ≡ true
kind-whole cs h i = all-test (λ v. filled v && utf8 v) (flat (map (of_kind i) cs)) (all-flat Utf8Value Whole (of_kind i) (of-kind-whole i) cs h)

-- what is known of a name
pub record Named (n : Name) : Type 0 where
  pub full : with-some n.full utf8 true ≡ true
  pub seven : length n.parts ≡ 7
  pub parts : all (all (λ v. filled v && utf8 v)) n.parts ≡ true

pub nameless-named : Named nameless
unfolding all
nameless-named = record { full = refl; seven = refl; parts = refl }

by-kind-named : (f : Option Bytes) (cs : List Component) → with-some f utf8 true ≡ true → All Utf8Value cs → Named (record { full = f; parts = by_kind cs })
unfolding by_kind all
by-kind-named f cs u h =
    record { full = u; seven = refl; parts = rw (kind-whole cs h 0, kind-whole cs h 1, kind-whole cs h 2, kind-whole cs h 3, kind-whole cs h 4, kind-whole cs h 5, kind-whole cs h 6) }

full-utf8 : (d : ℕ) (j : Json) (f : Option Bytes) → Sound d j → Option.map some (as_string j) ≡ some f → with-some f utf8 true ≡ true
full-utf8 d j f h e = let i = map-inv some (as_string j) e in rw (← i.2) (string-sound d j i.0 h i.1)

components-utf8 : (d : ℕ) (j : Json) (cs : List Component) → Sound d j → chain (as_array j) (each component_of) ≡ some cs → All Utf8Value cs
components-utf8 d j cs h e =
    let i = chain-inv (as_array j) (each component_of) e in
    let o = array-sound d j i.0 h i.1 in
    each-gives component_of (Sound o.0) Utf8Value (component-utf8 o.0) i.0 cs o.2 i.2

pub name-named : (d : ℕ) (j : Json) (n : Name) → Sound d j → name_from j ≡ some n → Named n
unfolding name_from
name-named d j n h e =
    let i = chain-inv (as_object j) _ e in
    let o = object-sound d j i.0 h i.1 in
    let t : Bool = only_members (ascii "full" ∷ ascii "components" ∷ ascii "isOrdered" ∷ []) i.0 && (is_some (field (ascii "full") i.0) || is_some (field (ascii "components") i.0)) in
    let q = provided-inv t _ i.2 in
    let c = chain-inv (optional (ascii "isOrdered") true is_false i.0) _ q.1 in
    let b = both-inv (λ f cs. record { full = f; parts = by_kind cs }) _ _ c.2 in
    let f = optional-holds (λ f. with-some f utf8 true ≡ true) o.0 (ascii "full") none (λ v. Option.map some (as_string v)) i.0 b.0 o.3 refl (λ j s q. full-utf8 o.0 j b.0 s q) b.2 in
    let cs = optional-holds (All Utf8Value) o.0 (ascii "components") [] (λ v. chain (as_array v) (each component_of)) i.0 b.1 o.3 tt (λ j s q. components-utf8 o.0 j b.1 s q) b.3 in
    subst Named b.4 (by-kind-named b.0 b.1 f cs)

-- ---- an entry's strings

one-formed : (f : Bytes → Bool) (x : Option Bytes) (vs : List Bytes) → ((v : Bytes) → x ≡ some v → f v ≡ true) → Option.map (λ v. v ∷ []) x ≡ some vs → (eqb (length vs) 1 ≡ true) × (all f vs ≡ true)
unfolding all
one-formed f x vs h e = let i = map-inv (λ v. v ∷ []) x e in rw (← i.2) (refl, rw (h i.0 i.1))

any-kept : (p : Bytes → Bool) (xs : List Bytes) → any p (keep p xs) ≡ any p xs
unfolding any keep
any-kept p [] = refl
any-kept p (x ∷ xs) = by_bool (p x) (λ e. rw (e, e)) (λ e. rw e (any-kept p xs))

pub any-head-kept : (n : Bytes) (us : List Bytes) → any filled (n ∷ us) ≡ true → any filled (n ∷ keep filled us) ≡ true
unfolding any
any-head-kept n us h = rw (any-kept filled us) h

unit-utf8 : (d : ℕ) (j : Json) (u : Bytes) → Sound d j → unit_from j ≡ some u → utf8 u ≡ true
unfolding unit_from
unit-utf8 d j u h e =
    let i = chain-inv (as_object j) _ e in
    let o = object-sound d j i.0 h i.1 in
    required-utf8 o.0 (ascii "name") i.0 u o.3 (provided-inv (only_members (ascii "name" ∷ []) i.0) _ i.2).1

units-utf8 : (d : ℕ) (j : Json) (us : List Bytes) → Sound d j → chain (as_array j) (each unit_from) ≡ some us → All (λ u. utf8 u ≡ true) us
units-utf8 d j us h e =
    let i = chain-inv (as_array j) (each unit_from) e in
    let o = array-sound d j i.0 h i.1 in
    each-gives unit_from (Sound o.0) (λ u. utf8 u ≡ true) (unit-utf8 o.0) i.0 us o.2 i.2

organization-formed : (d : ℕ) (ms : List Member) (vs : List Bytes) → All (SoundMember d) ms → organization_from ms ≡ some vs → (formed organization vs ≡ true) × (all utf8 vs ≡ true)
unfolding organization_from formed
organization-formed d ms vs h e =
    let q = provided-inv (is_some (field (ascii "name") ms) || is_some (field (ascii "units") ms)) _ e in
    let a = chain-inv (optional (ascii "name") [] as_string ms) _ q.1 in
    let b = chain-inv (optional (ascii "units") [] (λ v. chain (as_array v) (each unit_from)) ms) _ a.2 in
    let p = provided-inv (any filled (a.0 ∷ b.0)) (some (a.0 ∷ keep filled b.0)) b.2 in
    let n = optional-holds (λ n. utf8 n ≡ true) d (ascii "name") [] as_string ms a.0 h utf8-none (λ j s q. string-sound d j a.0 s q) a.1 in
    let us = optional-holds (All (λ u. utf8 u ≡ true)) d (ascii "units") [] (λ v. chain (as_array v) (each unit_from)) ms b.0 h tt (λ j s q. units-utf8 d j b.0 s q) b.1 in
    rw (← some_same p.1) (and-true (any-head-kept a.0 b.0 p.0) (keep-passes filled b.0), all_cons utf8 a.0 (keep filled b.0) n (all-test utf8 (keep filled b.0) (all-kept (λ u. utf8 u ≡ true) filled b.0 us)))

pub content-formed : (d : ℕ) (f : Form) (n : Bytes) (ms : List Member) (vs : List Bytes) → All (SoundMember d) ms → content_from f n ms ≡ some vs → (formed f vs ≡ true) × (all utf8 vs ≡ true)
unfolding content_from formed
content-formed d text n ms vs h e = one-formed utf8 (required n as_string ms) vs (λ v q. required-utf8 d n ms v h q) e
content-formed d single n ms vs h e = one-formed utf8 (required n as_string ms) vs (λ v q. required-utf8 d n ms v h q) e
content-formed d uri n ms vs h e = one-formed utf8 (required n as_string ms) vs (λ v q. required-utf8 d n ms v h q) e
content-formed d phone n ms vs h e = one-formed utf8 (required n as_string ms) vs (λ v q. required-utf8 d n ms v h q) e
content-formed d organization n ms vs h e = organization-formed d ms vs h e
