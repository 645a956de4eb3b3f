-- An entry of each map is read exactly where `CardJson` takes it: one lemma a row.
use mathlib.Core.Path.{◌≡◌, refl, sym, ap, ap₂, ◌∙◌}
use mathlib.Core.Bool.{Bool, true, false, ◌&&◌, ◌||◌}
use mathlib.Core.List.{List, [], ◌∷◌, map}
use mathlib.Core.Option
use mathlib.Core.Option.{Option, none, some}
use Prim.Native.Nat.{ℕ, ◌+◌}
use lib.ListN.{take, drop}
use Rattle.text.specs.Choice.{with-some, is_some, chain, provided}
use Rattle.text.specs.Bytes.{Bytes, ascii, all, any, same, among, keep, each}
use Rattle.json_text.specs.Tree.{Json, Member, member, name_of, value_of, field, as_string, as_number, as_array, as_object}
use Rattle.convert.specs.Table.{Map, TypeName, type_names, json_type, position}
use Rattle.convert.specs.Value.{is_key_text, is_pref}
use Rattle.convert.specs.FromJson.{only_members, optional, required, is_true, flag_of, flags_from, unit_from, organization_from, content_from, entry_members, entry_from, map_from}
use Rattle.home.specs.Reasons.{key_fits, pref_number}
use Rattle.home.specs.CardJson as C
use Rattle.home.proofs.Known.{on_provided, on_chain, on_some}
use Rattle.home.proofs.PairedEntries.{map_at}
use Rattle.home.proofs.CardJsonTests.{and_one, and_again, and-where, some-provided, provided-one, some-map, some_chain, some-optional, chain-and, some-each, any-each, all_same, found, found_name, is_true_lem, absent, key_fits_lem, pref-fits}

-- ---- an entry: its key, the members that it may have, and five readings

module _ (m : Map) (ms : List Member) where
  abbrev read_kind : Option ℕ
  read_kind = optional (ascii "kind") 0 (λ v. chain (as_string v) λ s. position (same s) m.kinds) ms

  abbrev read_content : Option (List Bytes)
  read_content = content_from m.form m.content ms

  abbrev read_contexts : Option (List ℕ)
  read_contexts = optional (ascii "contexts") [] (flags_from 0 (take 2 type_names)) ms

  abbrev read_features : Option (List ℕ)
  read_features = optional (ascii "features") [] (flags_from 2 (drop 2 type_names)) ms

  abbrev read_pref : Option Bytes
  read_pref = optional (ascii "pref") [] (λ v. chain (as_number v) λ p. provided (is_pref p) (some p)) ms

  abbrev all_read : Bool
  all_read = is_some read_kind && (is_some read_content && (is_some read_contexts && (is_some read_features && is_some read_pref)))

some-five : {A B C D E F : Type 0} (a : Option A) (b : Option B) (c : Option C) (d : Option D) (e : Option E) (f : A → B → C → D → E → F)
    → is_some (chain a λ v. chain b λ w. chain c λ x. chain d λ y. chain e λ z. some (f v w x y z)) ≡ is_some a && (is_some b && (is_some c && (is_some d && is_some e)))
some-five (some a) (some b) (some c) (some d) (some e) f = refl
some-five (some a) (some b) (some c) (some d) none f = refl
some-five (some a) (some b) (some c) none e f = refl
some-five (some a) (some b) none d e f = refl
some-five (some a) none c d e f = refl
some-five none b c d e f = refl

keyed : {A B : Type 0} (b : Bool) (o : Option A) (f : A → Option B) (p : A → Bool) → ((a : A) → is_some (f a) ≡ p a) → is_some (chain (provided b o) f) ≡ b && with-some o p false
keyed true o f p h = some_chain o f p h
keyed false o f p h = refl

-- p: the row of `CardJson`
abbrev Row : Map → (List Member → Bool) → Type 0
Row m p = (ms : List Member) → only_members (entry_members m) ms && all_read m ms ≡ p ms

entry-is : (m : Map) (p : List Member → Bool) → Row m p → (e : Member) → is_some (entry_from m e) ≡ key_fits (name_of e) && C.an_object p (value_of e)
unfolding entry_from
entry-is m p h (member k j) =
    keyed (is_key_text k) (as_object j) _ p
    (λ ms. some-provided (only_members (entry_members m) ms) _ ∙ ap (λ (b : Bool). only_members (entry_members m) ms && b) (some-five (read_kind m ms) (read_content m ms) (read_contexts m ms) (read_features m ms) (read_pref m ms) _) ∙ h ms)
    ∙ ap (λ (b : Bool). b && C.an_object p j) (key_fits_lem k)

-- the whole map
pub map_is : (m : Map) (p : List Member → Bool) → Row m p → (ms : List Member) → is_some (map_from ms m) ≡ C.obeyed ms (C.may m.member (C.under_keys p))
unfolding map_from
map_is m p h ms = some-optional (field m.member ms) _ [] (C.under_keys p) (λ j. some_chain (as_object j) (each (entry_from m)) _ (some-each (entry_from m) _ (entry-is m p h)))

-- ---- the readings, each by its rule

module _ (ms : List Member) where
  text-is : (n : Bytes) → is_some (Option.map (λ v. v ∷ []) (required n as_string ms)) ≡ C.obeyed ms (C.must n C.any_string)
  text-is n = some-map (λ v. v ∷ []) (required n as_string ms) ∙ some_chain (field n ms) as_string C.any_string (λ j. refl)

  flag_is : (i : ℕ) (ts : List TypeName) (m : Member) → is_some (flag_of i ts m) ≡ C.a_true (value_of m) && among (name_of m) (map json_type ts)
  flag_is i ts (member n j) = some-provided (is_true j) _ ∙ ap₂ ◌&&◌ (is_true_lem j) (some-map (λ k. i + k) (position (λ t. same n (json_type t)) ts) ∙ found json_type n ts)

  flags-are : (n : Bytes) (i : ℕ) (ts : List TypeName) → is_some (optional n [] (flags_from i ts) ms) ≡ C.obeyed ms (C.may n (C.flags (map json_type ts)))
  unfolding flags_from
  flags-are n i ts = some-optional (field n ms) _ [] _ (λ j. some_chain (as_object j) (each (flag_of i ts)) _ (some-each (flag_of i ts) _ (flag_is i ts)))

  contexts-are : is_some (optional (ascii "contexts") [] (flags_from 0 (take 2 type_names)) ms) ≡ C.obeyed ms C.contexts
  contexts-are = flags-are (ascii "contexts") 0 (take 2 type_names)

  features-are : is_some (optional (ascii "features") [] (flags_from 2 (drop 2 type_names)) ms) ≡ C.obeyed ms C.features
  features-are = flags-are (ascii "features") 2 (drop 2 type_names)

  pref-is : is_some (optional (ascii "pref") [] (λ v. chain (as_number v) λ p. provided (is_pref p) (some p)) ms) ≡ C.obeyed ms C.pref
  pref-is = some-optional (field (ascii "pref") ms) _ [] _ (λ j. some_chain (as_number j) _ pref_number (λ p. provided-one (is_pref p) p ∙ pref-fits p))

  kind-is : (ks : List Bytes) → is_some (optional (ascii "kind") 0 (λ v. chain (as_string v) λ s. position (same s) ks) ms) ≡ C.obeyed ms (C.may (ascii "kind") (C.a_string λ k. among k ks))
  kind-is ks = some-optional (field (ascii "kind") ms) _ 0 _ (λ j. some_chain (as_string j) _ (λ k. among k ks) (λ k. found_name k ks))

-- ---- the rows

-- no member of that name, and so nothing to read
module _ (ms : List Member) (ns : List Bytes) (only : all (λ m. among (name_of m) ns) ms ≡ true) where
  no_kind : (m : Map) → among (ascii "kind") ns ≡ false → is_some (read_kind m ms) ≡ true
  no_kind m h = rw (absent ns (ascii "kind") h ms only)

  no-contexts : among (ascii "contexts") ns ≡ false → is_some (read_contexts (map_at 0) ms) ≡ true
  no-contexts h = rw (absent ns (ascii "contexts") h ms only)

  no-features : among (ascii "features") ns ≡ false → is_some (read_features (map_at 0) ms) ≡ true
  no-features h = rw (absent ns (ascii "features") h ms only)

  no-pref : among (ascii "pref") ns ≡ false → is_some (read_pref (map_at 0) ms) ≡ true
  no-pref h = rw (absent ns (ascii "pref") h ms only)

-- contexts and pref besides a string n
abbrev preferred : Bytes → List C.Rule
preferred n = C.must n C.any_string ∷ C.contexts ∷ C.pref ∷ []

preferred-row : (m : Map) (n : Bytes) → entry_members m ≡ n ∷ ascii "contexts" ∷ ascii "pref" ∷ [] → among (ascii "kind") (n ∷ ascii "contexts" ∷ ascii "pref" ∷ []) ≡ false
    → among (ascii "features") (n ∷ ascii "contexts" ∷ ascii "pref" ∷ []) ≡ false → ((ms : List Member) → is_some (read_content m ms) ≡ C.obeyed ms (C.must n C.any_string)) → Row m (C.shaped (preferred n))
unfolding C.shaped only_members all
preferred-row m n e k f c ms =
    let ns : List Bytes = n ∷ ascii "contexts" ∷ ascii "pref" ∷ [] in
    rw e (and-where (all (λ m. among (name_of m) ns) ms) _ _ λ o.
    rw (no_kind ms ns o m k, no-features ms ns o f, c ms, contexts-are ms, pref-is ms)
    (ap (λ (b : Bool). C.obeyed ms (C.must n C.any_string) && (C.obeyed ms C.contexts && b)) (sym (and_one (C.obeyed ms C.pref)))))

pub nickname-row : Row (map_at 0) C.nickname
unfolding entry_members content_from among any same
nickname-row = preferred-row (map_at 0) (ascii "name") refl refl refl (λ ms. text-is ms (ascii "name"))

pub email-row : Row (map_at 1) C.email
unfolding entry_members content_from among any same
email-row = preferred-row (map_at 1) (ascii "address") refl refl refl (λ ms. text-is ms (ascii "address"))

pub link_row : Row (map_at 3) C.link
unfolding entry_members content_from among any same
link_row = preferred-row (map_at 3) (ascii "uri") refl refl refl (λ ms. text-is ms (ascii "uri"))

-- the same names in another order
or_later : (a b c d : Bool) → a || (b || (c || (d || false))) ≡ a || (b || (d || (c || false)))
or_later true b c d = refl
or_later false true c d = refl
or_later false false true true = refl
or_later false false true false = refl
or_later false false false true = refl
or_later false false false false = refl

or-first : (a b : Bool) → a || (b || false) ≡ b || (a || false)
or-first true true = refl
or-first true false = refl
or-first false true = refl
or-first false false = refl

phone-names : (ms : List Member) → only_members (entry_members (map_at 2)) ms ≡ all (λ m. among (name_of m) (ascii "number" ∷ ascii "contexts" ∷ ascii "features" ∷ ascii "pref" ∷ [])) ms
unfolding only_members entry_members among any same
phone-names ms = all_same _ _ (λ m. or_later (same (name_of m) (ascii "number")) (same (name_of m) (ascii "contexts")) (same (name_of m) (ascii "pref")) (same (name_of m) (ascii "features"))) ms

title-names : (ms : List Member) → only_members (entry_members (map_at 5)) ms ≡ all (λ m. among (name_of m) (ascii "kind" ∷ ascii "name" ∷ [])) ms
unfolding only_members entry_members among any same
title-names ms = all_same _ _ (λ m. or-first (same (name_of m) (ascii "name")) (same (name_of m) (ascii "kind"))) ms

pub phone-row : Row (map_at 2) C.phone
unfolding C.shaped all content_from
phone-row ms =
    let ns : List Bytes = ascii "number" ∷ ascii "contexts" ∷ ascii "features" ∷ ascii "pref" ∷ [] in
    rw (phone-names ms) (and-where (all (λ m. among (name_of m) ns) ms) _ _ λ o.
    rw (no_kind ms ns o (map_at 2) (unfold among any same in refl), text-is ms (ascii "number"), contexts-are ms, features-are ms, pref-is ms)
    (ap (λ (b : Bool). C.obeyed ms (C.must (ascii "number") C.any_string) && (C.obeyed ms C.contexts && (C.obeyed ms C.features && b))) (sym (and_one (C.obeyed ms C.pref)))))

pub note-row : Row (map_at 4) C.note
unfolding C.shaped all entry_members only_members content_from among any same
note-row ms =
    let ns : List Bytes = ascii "note" ∷ [] in
    and-where (all (λ m. among (name_of m) ns) ms) _ _ λ o.
    rw (no_kind ms ns o (map_at 4) refl, no-contexts ms ns o refl, no-features ms ns o refl, no-pref ms ns o refl, text-is ms (ascii "note"))

pub title-row : Row (map_at 5) C.title
unfolding C.shaped all content_from
title-row ms =
    let ns : List Bytes = ascii "kind" ∷ ascii "name" ∷ [] in
    rw (title-names ms) (and-where (all (λ m. among (name_of m) ns) ms) _ _ λ o.
    rw (kind-is ms (ascii "title" ∷ ascii "role" ∷ []), no-contexts ms ns o (unfold among any same in refl), no-features ms ns o (unfold among any same in refl), no-pref ms ns o (unfold among any same in refl), text-is ms (ascii "name")))

-- ---- ORG

unit-is : (j : Json) → is_some (unit_from j) ≡ C.an_object C.is_unit j
unfolding unit_from C.shaped all only_members
unit-is j =
    some_chain (as_object j) _ C.is_unit λ ms.
    some-provided (only_members (ascii "name" ∷ []) ms) (required (ascii "name") as_string ms)
    ∙ ap (λ (b : Bool). all (λ m. among (name_of m) (ascii "name" ∷ [])) ms && b) (some_chain (field (ascii "name") ms) as_string C.any_string (λ j. refl) ∙ sym (and_one (C.obeyed ms (C.must (ascii "name") C.any_string))))

unit-filled : (j : Json) (v : Bytes) → unit_from j ≡ some v → C.filled v ≡ C.an_object (C.has_text (ascii "name")) j
unfolding unit_from
unit-filled j v e =
    on_chain (as_object j) _ e λ ms o r.
    on_provided (only_members (ascii "name" ∷ []) ms) _ r λ t b.
    on_chain (field (ascii "name") ms) as_string b λ w f a.
    rw (o, f, a)

abbrev any_unit : Json → Bool
any_unit = C.an_array (any (C.an_object (C.has_text (ascii "name"))))

-- b: whether the name is left
units-are : (b : Bool) (y : Json) (k : List Bytes → List Bytes)
    → is_some (chain (chain (as_array y) (each unit_from)) λ us. provided (b || any C.filled us) (some (k us))) ≡ (C.an_array (all (C.an_object C.is_unit)) y && true) && (b || any_unit y)
units-are b y k =
    on_some (as_array y) (λ e. rw e)
    (λ js e. rw e (chain-and (each unit_from js) _ (all (C.an_object C.is_unit) js && true) (b || any (C.an_object (C.has_text (ascii "name"))) js) (some-each unit_from _ unit-is js ∙ sym (and_one _))
    (λ us q. provided-one (b || any C.filled us) (k us) ∙ ap (λ (x : Bool). b || x) (any-each unit_from C.filled _ unit-filled js us q))))

-- n, u: the two members
organization-read : (n u : Option Json) → is_some (provided (is_some n || is_some u) (chain (with-some n as_string (some [])) λ v.
    chain (with-some u (λ y. chain (as_array y) (each unit_from)) (some [])) λ us. provided (any C.filled (v ∷ us)) (some (v ∷ keep C.filled us))))
    ≡ (with-some n C.any_string true && (with-some u (C.an_array (all (C.an_object C.is_unit))) true && true)) && (with-some n (C.a_string C.filled) false || with-some u any_unit false)
unfolding any
organization-read none none = refl
organization-read none (some y) = units-are false y (λ us. [] ∷ keep C.filled us)
organization-read (some x) none = on_some (as_string x) (λ e. rw e) (λ v e. rw e (provided-one (C.filled v || false) _))
organization-read (some x) (some y) = on_some (as_string x) (λ e. rw e) (λ v e. rw e (units-are (C.filled v) y (λ us. v ∷ keep C.filled us)))

pub organization-row : Row (map_at 6) C.organization
unfolding C.organization C.shaped all entry_members only_members content_from organization_from among any same
organization-row ms =
    let ns : List Bytes = ascii "name" ∷ ascii "units" ∷ [] in
    and-where (all (λ m. among (name_of m) ns) ms) _ _ (λ o.
    rw (no_kind ms ns o (map_at 6) refl, no-contexts ms ns o refl, no-features ms ns o refl, no-pref ms ns o refl, and_one (is_some (organization_from ms)))
    (organization-read (field (ascii "name") ms) (field (ascii "units") ms)))
    ∙ sym (and_again (all (λ m. among (name_of m) ns) ms) _ _)
