-- Entries of the maps: kind, content, contexts, features, pref, as the normal form has them.
use mathlib.Core.Path.{◌≡◌, refl, sym, ap, ap₂, ◌∙◌}
use mathlib.Core.Bool.{Bool, true, false, ◌||◌, not}
use mathlib.Core.List.{List, [], ◌∷◌, ◌++◌, map, map-id}
use mathlib.Core.Option
use mathlib.Core.Option.{some}
use Prim.Native.Nat.{ℕ}
use lib.ListN.{get_or, take, drop}
use Rattle.text.specs.Choice.{pick, with-some, is_some, chain, provided}
use Rattle.text.specs.Bytes.{Bytes, ascii, any, all, empty, same, among, distinct, flat, keep, each}
use Rattle.text.proofs.Cases.{by_bool, not-both, and_left, and_right, not-true}
use Rattle.text.proofs.Same.{same_true, same-eq}
use Rattle.text.proofs.Choices.{none-some, some_same}
use Rattle.json_text.specs.Tree.{Json, jnull, jtrue, jfalse, jnum, jstr, jobj, jarr, Members, mnil, mcons, Member, member, name_of, value_of, field, object, array, as_string, as_number, as_array, as_object, members_of, from_members}
use Rattle.json_text.specs.Strings.{distinct_names}
use Rattle.convert.specs.Table.{Form, text, single, uri, phone, organization, Map, maps, type_names, position}
use Rattle.convert.specs.Model.{Entry}
use Rattle.convert.specs.Value.{filled, head_or, is_key_text, is_pref}
use Rattle.convert.specs.FromJson.{only_members, flags_from, unit_from, organization_from, content_from, entry_members, entry_from, map_from}
use Rattle.convert.specs.ToJson.{where', content_json, entry_json, maps_json}
use Rattle.convert.specs.NormalJson.{fields_of, items_of, is_empty_text, as_is, unless_gone, is_organization, is_unit, content_form, entry_tree, map_tree}
use Rattle.convert.proofs.Forms.{flat-singly}
use Rattle.convert.proofs.EntryJson.{unit_json}
use Rattle.home.proofs.Known.{on_provided, on_chain, on_map, on_each, on_optional}
use Rattle.home.proofs.Images.{each_keep, each_same, empty-map}
use Rattle.home.proofs.Positions.{position-name, pref-filled}
use Rattle.home.proofs.Shapes.{string-inv, number-inv, gone, object-distinct, fields-distinct, field-items, field-fields}
use Rattle.home.proofs.NormalJsonFlags.{flags-read, Given, contexts-form, features-form}
use Rattle.home.proofs.Alls.{All}

-- ---- what the law needs of a row of the table

abbrev pub is_organization_form : Form → Bool
is_organization_form text = false
is_organization_form single = false
is_organization_form uri = false
is_organization_form phone = false
is_organization_form organization = true

pub record Row (m : Map) : Type 0 where
  pub kinds : empty m.kinds || same (get_or m.kinds 0 []) (ascii "title") ≡ true
  pub form : is_organization m ≡ is_organization_form m.form
  pub content : not (is_organization_form m.form) || same m.content (ascii "name") ≡ true

abbrev pub Rows : List Map → Type 0
Rows ms = All Row ms

pub rows : Rows maps
unfolding same
rows = (
  record { kinds = refl; form = refl; content = refl },
  (
    record { kinds = refl; form = refl; content = refl },
    (
      record { kinds = refl; form = refl; content = refl },
      (
        record { kinds = refl; form = refl; content = refl },
        (
          record { kinds = refl; form = refl; content = refl },
          (
            record { kinds = refl; form = refl; content = refl },
            (record { kinds = refl; form = refl; content = refl }, tt),
          ),
        ),
      ),
    ),
  ),
)

-- ---- kind

kind-part : (ks : List Bytes) (ms : List Member) (w : ℕ) → empty ks || same (get_or ks 0 []) (ascii "title") ≡ true
    → with-some (field (ascii "kind") ms) (λ v. chain (as_string v) λ s. position (same s) ks) (some 0) ≡ some w
    → where' (not (empty ks)) (member (ascii "kind") (jstr (get_or ks w []))) ≡ pick (empty ks) [] (member (ascii "kind") (with-some (field (ascii "kind") ms) (λ j. j) (jstr (ascii "title"))) ∷ [])
kind-part [] ms w h e = refl
kind-part (x ∷ xs) ms w h e =
    on_optional (field (ascii "kind") ms) 0 (λ v. chain (as_string v) λ s. position (same s) (x ∷ xs)) e
    (λ n d. rw (n, ← d, same_true x (ascii "title") h))
    (λ j f q. on_chain (as_string j) _ q (λ s g p. rw (f, string-inv j s g, position-name s (x ∷ xs) w p)))

-- ---- one string

one-part : (n : Bytes) (ms : List Member) (vs : List Bytes) → Option.map (λ v. v ∷ []) (chain (field n ms) as_string) ≡ some vs → member n (jstr (head_or [] vs)) ∷ [] ≡ as_is n ms
one-part n ms vs e =
    on_map (λ v. v ∷ []) _ e λ v p q.
    on_chain (field n ms) as_string p λ j f s.
    rw (f, ← q, string-inv j v s)

-- ---- an organisation

among_one : (n x : Bytes) → among n (x ∷ []) ≡ true → same n x ≡ true
unfolding among any
among_one n x h = by_bool (same n x) (λ e. e) (λ e. not-both h (rw e))

same-among : (n m : Bytes) (ns : List Bytes) → same n m ≡ true → among n (m ∷ ns) ≡ true
unfolding among any
same-among n m ns h = rw h

-- a unit_json has one member: with distinct names there is nothing else in it
unit-object : (os : Members) (v : Json) (s : Bytes) → distinct (map name_of (members_of os)) ≡ true → only_members (ascii "name" ∷ []) (members_of os) ≡ true → field (ascii "name") (members_of os) ≡ some v → as_string v ≡ some s
    → jobj os ≡ unit_json s
unfolding members_of from_members field only_members distinct all
unit-object mnil v s d o f a = none-some f
unit-object (mcons n j mnil) v s d o f a =
    let q = among_one n (ascii "name") (and_left _ _ o) in
    let r : j ≡ v = some_same (rw q at f) in
    rw (same_true n (ascii "name") q, r, string-inv v s a)
unit-object (mcons n j (mcons m k os)) v s d o f a =
    let q = among_one n (ascii "name") (and_left _ _ o) in
    let r = among_one m (ascii "name") (and_left _ _ (and_right (among n (ascii "name" ∷ [])) _ o)) in
    not-both (same-among n m (map name_of (members_of os)) (same-eq (same_true n (ascii "name") q ∙ sym (same_true m (ascii "name") r)))) (not-true _ (and_left _ _ d))

pub unit-read : (j : Json) (s : Bytes) → distinct_names j ≡ true → unit_from j ≡ some s → j ≡ unit_json s
unfolding unit_from
unit-read jnull s d e = none-some e
unit-read jtrue s d e = none-some e
unit-read jfalse s d e = none-some e
unit-read (jnum x) s d e = none-some e
unit-read (jstr x) s d e = none-some e
unit-read (jarr es) s d e = none-some e
unit-read (jobj os) s d e =
    on_provided (only_members (ascii "name" ∷ []) (members_of os)) _ e λ o r.
    on_chain (field (ascii "name") (members_of os)) as_string r λ v f a.
    unit-object os v s (object-distinct os d).0 o f a

pub unit-filled : (s : Bytes) → filled s ≡ is_unit (unit_json s)
unfolding is_unit members_of from_members field same
unit-filled s = refl

unit-shown : (j : Json) (s : Bytes) → distinct_names j ≡ true → unit_from j ≡ some s → (filled s ≡ is_unit j) × (unit_json s ≡ j)
unit-shown j s d e = let q = unit-read j s d e in (unit-filled s ∙ ap is_unit (sym q), sym q)

units-read : (ms : List Member) (us : List Bytes) → with-some (field (ascii "units") ms) (λ v. chain (as_array v) (each unit_from)) (some []) ≡ some us
    → each unit_from (with-some (field (ascii "units") ms) items_of []) ≡ some us
unfolding each
units-read ms us e =
    on_optional (field (ascii "units") ms) [] (λ v. chain (as_array v) (each unit_from)) e
    (λ n d. rw (n, ← d))
    (λ j h q. on_chain (as_array j) (each unit_from) q (λ js p r. rw (h, p) r))

units-part : (ms : List Member) (us : List Bytes) → all (λ m. distinct_names (value_of m)) ms ≡ true → with-some (field (ascii "units") ms) (λ v. chain (as_array v) (each unit_from)) (some []) ≡ some us
    → where' (not (empty (keep filled us))) (member (ascii "units") (array (map unit_json (keep filled us)))) ≡ unless_gone (ascii "units") array (keep is_unit (with-some (field (ascii "units") ms) items_of []))
units-part ms us d e =
    gone (ascii "units") array (map unit_json (keep filled us)) (not (empty (keep filled us))) (ap not (sym (empty-map unit_json (keep filled us))))
    ∙ ap (unless_gone (ascii "units") array)
    (each_keep unit_from distinct_names unit_json (λ j. j) filled is_unit unit-shown (with-some (field (ascii "units") ms) items_of []) us (field-items (ascii "units") ms d) (units-read ms us e)
    ∙ map-id (keep is_unit (with-some (field (ascii "units") ms) items_of [])))

where-pick : (b : Bool) (m : Member) → where' b m ≡ pick b (m ∷ []) []
where-pick true m = refl
where-pick false m = refl

name-part : (ms : List Member) (n : Bytes) → with-some (field (ascii "name") ms) as_string (some []) ≡ some n
    → where' (filled n) (member (ascii "name") (jstr n)) ≡ keep (λ x. not (is_empty_text (value_of x))) (as_is (ascii "name") ms)
unfolding keep
name-part ms n e =
    on_optional (field (ascii "name") ms) [] as_string e
    (λ a d. rw (a, ← d))
    (λ j h q. rw (h, string-inv j n q) (where-pick (filled n) (member (ascii "name") (jstr n))))

abbrev organization_form : List Member → List Member
organization_form ms =
    keep (λ x. not (is_empty_text (value_of x))) (as_is (ascii "name") ms)
    ++ unless_gone (ascii "units") array (keep is_unit (with-some (field (ascii "units") ms) items_of []))

organization-part : (n : Bytes) (ms : List Member) (vs : List Bytes) → n ≡ ascii "name" → all (λ m. distinct_names (value_of m)) ms ≡ true → organization_from ms ≡ some vs → content_json organization n vs ≡ organization_form ms
unfolding organization_from content_json
organization-part n ms vs i d e =
    on_provided (is_some (field (ascii "name") ms) || is_some (field (ascii "units") ms)) _ e λ t r.
    on_chain (with-some (field (ascii "name") ms) as_string (some [])) _ r λ x p q.
    on_chain (with-some (field (ascii "units") ms) (λ v. chain (as_array v) (each unit_from)) (some [])) _ q λ us u v.
    on_provided (any filled (x ∷ us)) (some (x ∷ keep filled us)) v λ w z.
    rw (← some_same z, i) (ap₂ ◌++◌ (name-part ms x p) (units-part ms us d u))

-- ---- content

content-part : (m : Map) → Row m → (ms : List Member) (vs : List Bytes) → all (λ m. distinct_names (value_of m)) ms ≡ true → content_from m.form m.content ms ≡ some vs → content_json m.form m.content vs ≡ content_form m ms
unfolding content_form
content-part m r ms vs d e = rw r.form (by m.form m.content r.content e)
  where
    by : (f : Form) (n : Bytes) → not (is_organization_form f) || same n (ascii "name") ≡ true → content_from f n ms ≡ some vs → content_json f n vs ≡ pick (is_organization_form f) (organization_form ms) (as_is n ms)
    by text n h e = unfold content_from content_json in one-part n ms vs e
    by single n h e = unfold content_from content_json in one-part n ms vs e
    by uri n h e = unfold content_from content_json in one-part n ms vs e
    by phone n h e = unfold content_from content_json in one-part n ms vs e
    by organization n h e = unfold content_from in organization-part n ms vs (same_true n (ascii "name") h) d e

-- ---- pref

pref-part : (ms : List Member) (p : Bytes) → with-some (field (ascii "pref") ms) (λ v. chain (as_number v) λ p. provided (is_pref p) (some p)) (some []) ≡ some p
    → where' (filled p) (member (ascii "pref") (jnum p)) ≡ as_is (ascii "pref") ms
pref-part ms p e =
    on_optional (field (ascii "pref") ms) [] (λ v. chain (as_number v) λ p. provided (is_pref p) (some p)) e
    (λ a d. rw (a, ← d))
    (λ j h q. on_chain (as_number j) _ q λ x n r. on_provided (is_pref x) (some x) r λ t s. rw (h, ← some_same s, pref-filled x t, number-inv j x n))

-- ---- the entry

module _ (m : Map) (r : Row m) where
  pub entry-form : (x : Member) (e : Entry) → distinct_names (value_of x) ≡ true → entry_from m x ≡ some e → entry_json m e ≡ entry_tree m x
  unfolding entry_from entry_json entry_tree
  entry-form (member k j) e d h =
      on_chain (provided (is_key_text k) (as_object j)) _ h λ ms a b.
      on_provided (is_key_text k) (as_object j) a λ t o.
      on_provided (only_members (entry_members m) ms) _ b λ u c.
      on_chain (with-some (field (ascii "kind") ms) (λ v. chain (as_string v) λ s. position (same s) m.kinds) (some 0)) _ c λ w e1 c1.
      on_chain (content_from m.form m.content ms) _ c1 λ vs e2 c2.
      on_chain (with-some (field (ascii "contexts") ms) (flags_from 0 (take 2 type_names)) (some [])) _ c2 λ xs e3 c3.
      on_chain (with-some (field (ascii "features") ms) (flags_from 2 (drop 2 type_names)) (some [])) _ c3 λ fs e4 c4.
      on_chain (with-some (field (ascii "pref") ms) (λ v. chain (as_number v) λ p. provided (is_pref p) (some p)) (some [])) _ c4 λ p e5 c5.
      let n : all (λ m. distinct_names (value_of m)) ms ≡ true = rw o at (fields-distinct j d) in
      let g : Given ms xs fs = (flags-read 0 (take 2 type_names) (ascii "contexts") ms xs e3, flags-read 2 (drop 2 type_names) (ascii "features") ms fs e4) in
      rw (← some_same c5, o, flat-singly vs)
      (ap (λ (l : List Member). member k (object l))
      (ap₂ ◌++◌ (ap₂ ◌++◌ (ap₂ ◌++◌ (ap₂ ◌++◌ (kind-part m.kinds ms w r.kinds e1) (content-part m r ms vs n e2)) (contexts-form ms xs fs g)) (features-form ms xs fs g)) (pref-part ms p e5)))

  pub entries-read : (ms : List Member) (es : List Entry) → map_from ms m ≡ some es → each (entry_from m) (with-some (field m.member ms) fields_of []) ≡ some es
  unfolding map_from each
  entries-read ms es e =
      on_optional (field m.member ms) [] (λ j. chain (as_object j) (each (entry_from m))) e
      (λ n d. rw (n, ← d))
      (λ j h q. on_chain (as_object j) (each (entry_from m)) q (λ os p r. rw (h, p) r))

  pub map-form : (ms : List Member) (es : List Entry) → all (λ m. distinct_names (value_of m)) ms ≡ true → map_from ms m ≡ some es
      → where' (not (empty es)) (member m.member (object (map (entry_json m) es))) ≡ map_tree ms m
  unfolding map_tree
  map-form ms es d e =
      let os : List Member = with-some (field m.member ms) fields_of [] in
      gone m.member object (map (entry_json m) es) (not (empty es)) (ap not (sym (empty-map (entry_json m) es)))
      ∙ ap (unless_gone m.member object) (each_same (entry_from m) (λ m. distinct_names (value_of m)) (entry_json m) (entry_tree m) entry-form os es (field-fields m.member ms d) (entries-read ms es e))

pub maps-form : (ts : List Map) → Rows ts → (ms : List Member) (ess : List (List Entry)) → all (λ m. distinct_names (value_of m)) ms ≡ true → each (map_from ms) ts ≡ some ess → maps_json ts ess ≡ flat (map (map_tree ms) ts)
unfolding maps_json flat
maps-form [] r ms ess d e = refl
maps-form (t ∷ ts) r ms ess d e = on_each (map_from ms) t ts e λ es ess p q i. rw (← i) (ap₂ ◌++◌ (map-form t r.0 ms es d p) (maps-form ts r.1 ms ess d q))
