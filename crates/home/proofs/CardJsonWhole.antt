-- JSON is read as a card exactly where `CardJson` takes it: refusal 12.
use mathlib.Core.Path.{◌≡◌, refl, sym, ap, ap₂, ◌∙◌}
use mathlib.Core.Bool.{Bool, true, false, ◌&&◌, ◌||◌}
use mathlib.Core.List.{List, [], ◌∷◌, ◌++◌, map}
use mathlib.Core.Option.{Option, some}
use Prim.Native.Nat.{ℕ, suc}
use lib.Dec.{eqb}
use Rattle.text.specs.Choice.{pick, is_some, chain, provided}
use Rattle.text.specs.Bytes.{Bytes, ascii, all, any, same, among, lower, lowered, between, flat, keep, each}
use Rattle.text.proofs.Lists.{any_append, all_append}
use Rattle.json_text.specs.Tree.{Json, Member, name_of, value_of, field, as_string, as_array, as_object}
use Rattle.line.specs.Grammar.{param}
use Rattle.line.specs.Params.{named, values_named}
use Rattle.convert.specs.Table.{Map, maps}
use Rattle.convert.specs.Model.{Entry, Kept, Card, has_parts}
use Rattle.convert.specs.Classify.{id, is_id, Seen}
use Rattle.convert.specs.FromJson.{optional, required, is_lower_word, nameless, Name, name_from, entry_from, map_from, kept_from, kept_stands, ids_from, seen_in, standing, other_members, card_from_members, card_from_json}
use Rattle.home.specs.StandsFor.{a-full, components, an-entry, a-member}
use Rattle.home.specs.Reasons.{Paired, is_full, is_components, is_entry_of, is_member, earlier, used_in}
use Rattle.home.specs.CardJson as C
use Rattle.home.proofs.Alls.{each-called}
use Rattle.home.proofs.JsonEntries.{entry_key}
use Rattle.home.proofs.Known.{on_chain, on_none, on_each, on_optional, on_some}
use Rattle.home.proofs.PairedEntries.{name_at}
use Rattle.home.proofs.PairedWhole.{Named}
use Rattle.home.proofs.ReasonsSeen.{Knows}
use Rattle.home.proofs.CardJsonTests.{and_one, and_none, or-none, any-nothing, provided-one, some-provided, some_chain, some-optional, some-each, chain-and, lower_word}
use Rattle.home.proofs.CardJsonEntries.{map_is, nickname-row, email-row, phone-row, link_row, note-row, title-row, organization-row}
use Rattle.home.proofs.CardJsonName.{name-is, full-left, parts-left}
use Rattle.home.proofs.CardJsonKept.{props-are}

-- ---- any of the lines before

any-map : {A B : Type 0} (p : B → Bool) (f : A → B) (xs : List A) → any p (map f xs) ≡ any (λ x. p (f x)) xs
unfolding any
any-map p f [] = refl
any-map p f (x ∷ xs) = ap (λ (b : Bool). p (f x) || b) (any-map p f xs)

any-flat : {A B : Type 0} (p : B → Bool) (f : A → List B) (xs : List A) → any p (flat (map f xs)) ≡ any (λ x. any p (f x)) xs
unfolding any flat
any-flat p f [] = refl
any-flat p f (x ∷ xs) = any_append p (f x) (flat (map f xs)) ∙ ap (λ (b : Bool). any p (f x) || b) (any-flat p f xs)

any_same : {A : Type 0} (p q : A → Bool) → ((a : A) → p a ≡ q a) → (xs : List A) → any p xs ≡ any q xs
unfolding any
any_same p q h [] = refl
any_same p q h (x ∷ xs) = ap₂ ◌||◌ (h x) (any_same p q h xs)

any-no : {A : Type 0} (p : A → Bool) → ((a : A) → p a ≡ false) → (xs : List A) → any p xs ≡ false
any-no p h xs = any_same p (λ x. false) h xs ∙ any-nothing xs

any-pick : {A : Type 0} (p : A → Bool) (b : Bool) (a : A) → any p (pick b (a ∷ []) []) ≡ b && p a
unfolding any
any-pick p true a = or-none (p a)
any-pick p false a = refl

-- the four sections of the lines before
abbrev map_names : List Bytes
map_names = ascii "nicknames" ∷ ascii "emails" ∷ ascii "phones" ∷ ascii "links" ∷ ascii "notes" ∷ ascii "titles" ∷ ascii "organizations" ∷ []

abbrev other_line : Member → Paired
other_line m = C.line_of [] (a-member (name_of m) (value_of m))

module _ (p : Paired → Bool) (ms : List Member) where
  abbrev of_maps : Bool
  of_maps = any (λ x. any p (C.entries_before ms x)) map_names

  abbrev of_others : Bool
  of_others = any (λ m. p (other_line m)) (C.others ms)

  any-before : any p (C.before ms) ≡ any p (C.full_before ms) || any p (C.parts_before ms) || of_maps || of_others
  unfolding C.before
  any-before =
      let fs : List Paired = C.full_before ms in
      let ps : List Paired = C.parts_before ms in
      let es : List Paired = flat (map (C.entries_before ms) map_names) in
      any_append p (fs ++ ps ++ es) (map other_line (C.others ms))
      ∙ ap₂ ◌||◌ (any_append p (fs ++ ps) es ∙ ap₂ ◌||◌ (any_append p fs ps) (any-flat p (C.entries_before ms) map_names)) (any-map p other_line (C.others ms))

  -- a test that no entry of a map passes
  no-entry : ((x k : Bytes) → p (C.line_of (param (ascii "prop-id") (k ∷ []) ∷ []) (an-entry x (k ∷ []) [])) ≡ false) → of_maps ≡ false
  unfolding C.entries_before
  no-entry h = any-no _ (λ x. any-map p _ (C.members_at x ms) ∙ any-no _ (λ m. h x (name_of m)) (C.members_at x ms)) map_names

  no_other : ((n : Bytes) (j : Json) → p (C.line_of [] (a-member n j)) ≡ false) → of_others ≡ false
  no_other h = any-no _ (λ m. h (name_of m) (value_of m)) (C.others ms)

  abbrev full_there : Bool
  full_there = is_some (field (ascii "full") (C.members_at (ascii "name") ms))

  abbrev parts_there : Bool
  parts_there = C.obeyed (C.members_at (ascii "name") ms) (C.must (ascii "components") (C.an_array (any (C.an_object (C.has_text (ascii "value"))))))

  of-full : (b : Bool) → p (C.line_of [] (a-full [])) ≡ b → any p (C.full_before ms) ≡ full_there && b
  unfolding C.full_before
  of-full b h = any-pick p full_there (C.line_of [] (a-full [])) ∙ ap (λ (b : Bool). full_there && b) h

  of_parts : (b : Bool) → p (C.line_of [] (components [])) ≡ b → any p (C.parts_before ms) ≡ parts_there && b
  unfolding C.parts_before
  of_parts b h = any-pick p parts_there (C.line_of [] (components [])) ∙ ap (λ (b : Bool). parts_there && b) h

  -- neither FN nor N passes
  not-names : p (C.line_of [] (a-full [])) ≡ false → p (C.line_of [] (components [])) ≡ false → any p (C.before ms) ≡ of_maps || of_others
  not-names f c = any-before ∙ rw (of-full false f, and_none full_there, of_parts false c, and_none parts_there)

or-false : (a : Bool) {b c : Bool} → b ≡ false → c ≡ false → a || b || c ≡ a
or-false true e f = refl
or-false false e f = cc

-- ---- what was seen is what the members of the JSON stand for

module _ (ms : List Member) (n : Name) (e : optional (ascii "name") nameless name_from ms ≡ some n) where
  full-there : is_some n.full ≡ is_some (field (ascii "full") (C.members_at (ascii "name") ms))
  unfolding field
  full-there = on_optional (field (ascii "name") ms) nameless name_from e (λ z d. rw (z, ← d)) (λ j z d. rw z (full-left j n d))

  parts-there : has_parts n.parts ≡ C.obeyed (C.members_at (ascii "name") ms) (C.must (ascii "components") (C.an_array (any (C.an_object (C.has_text (ascii "value"))))))
  unfolding field has_parts any
  parts-there = on_optional (field (ascii "name") ms) nameless name_from e (λ z d. rw (z, ← d)) (λ j z d. rw z (parts-left j n d))

  full-seen : is_some n.full ≡ earlier is_full (C.before ms)
  full-seen =
      let p : Paired → Bool = λ (b : Paired). is_full b.stand in
      full-there ∙ sym (any-before p ms ∙ rw (of-full p ms true refl, and_one (full_there p ms), of_parts p ms false refl, and_none (parts_there p ms))
      (ap (λ (b : Bool). b || of_maps p ms || of_others p ms) (or-none (full_there p ms)) ∙ or-false (full_there p ms) (no-entry p ms (λ x k. refl)) (no_other p ms (λ m j. refl))))

  parts_seen : has_parts n.parts ≡ earlier is_components (C.before ms)
  parts_seen =
      let p : Paired → Bool = λ (b : Paired). is_components b.stand in
      parts-there ∙ sym (any-before p ms ∙ rw (of-full p ms false refl, and_none (full_there p ms), of_parts p ms true refl, and_one (parts_there p ms))
      (or-false (parts_there p ms) (no-entry p ms (λ x k. refl)) (no_other p ms (λ m j. refl))))

others-are : (ms : List Member) → other_members ms ≡ C.others ms
unfolding C.others
others-are ms = refl

members-seen : (ms : List Member) (n : Bytes) → among n (map name_of (other_members ms)) ≡ earlier (is_member n) (C.before ms)
unfolding among
members-seen ms n =
    let p : Paired → Bool = λ (b : Paired). is_member n b.stand in
    any-map (same n) name_of (other_members ms) ∙ ap (any (λ m. same n (name_of m))) (others-are ms) ∙ sym (not-names p ms refl refl ∙ ap (λ (b : Bool). b || of_others p ms) (no-entry p ms (λ x k. refl)))

-- ---- keys

keys-are : (ms : List Member) (t : Map) (es : List Entry) → map_from ms t ≡ some es → map (λ (e : Entry). e.key) es ≡ map name_of (C.members_at t.member ms)
unfolding map_from
keys-are ms t es e =
    on_optional (field t.member ms) [] _ e (λ z d. rw (z, ← d))
    (λ j z d. on_chain (as_object j) (each (entry_from t)) d λ os o w. rw (z, o) (each-called (entry_from t) name_of (λ (e : Entry). e.key) (entry_key t) os es w))

-- the names of the maps from the j-th on, as `StandsFor` names them
abbrev NamesFrom : ℕ → List Map → Type 0
NamesFrom j [] = Unit {0}
NamesFrom j (t ∷ ts) = (name_at j ≡ t.member) × NamesFrom (suc j) ts

its-id : (v : Bytes) → values_named (ascii "prop-id") (param (ascii "prop-id") (v ∷ []) ∷ []) ≡ v ∷ []
unfolding values_named named keep flat lowered lower between same
its-id v = refl

among_one : (k v : Bytes) → among k (v ∷ []) ≡ same k v
unfolding among any
among_one k v = or-none (same k v)

module _ (ms : List Member) (i : ℕ) (x : Bytes) (h : Named i x) (k : Bytes) where
  abbrev uses : Paired → Bool
  uses b = is_entry_of x b.stand && among k (values_named (ascii "prop-id") b.line.params)

  -- the keys of one map
  ids-of : (j : ℕ) (y : Bytes) (es : List Entry) → name_at j ≡ y → map (λ (e : Entry). e.key) es ≡ map name_of (C.members_at y ms) → any (is_id i k) (map (λ (e : Entry). id j e.key) es) ≡ any uses (C.entries_before ms y)
  unfolding C.entries_before
  ids-of j y es q e =
      any-map (is_id i k) (λ (e : Entry). id j e.key) es ∙ sym (any-map (λ v. eqb i j && same k v) (λ (e : Entry). e.key) es)
      ∙ ap (any (λ v. eqb i j && same k v)) e ∙ any-map (λ v. eqb i j && same k v) name_of (C.members_at y ms)
      ∙ any_same _ _ (λ m. one (name_of m)) (C.members_at y ms) ∙ sym (any-map uses _ (C.members_at y ms))
    where
      one : (v : Bytes) → eqb i j && same k v ≡ same y x && among k (values_named (ascii "prop-id") (param (ascii "prop-id") (v ∷ []) ∷ []))
      one v = ap₂ ◌&&◌ (sym (h j) ∙ ap (λ (z : Bytes). same z x) q) (sym (ap (among k) (its-id v) ∙ among_one k v))

  ids-from : (j : ℕ) (ts : List Map) (ess : List (List Entry)) → NamesFrom j ts → each (map_from ms) ts ≡ some ess
      → any (is_id i k) (ids_from j ess) ≡ any (λ y. any uses (C.entries_before ms y)) (map (λ (t : Map). t.member) ts)
  unfolding ids_from any
  ids-from j [] ess a e = on_none (map_from ms) e λ q. rw (← q)
  ids-from j (t ∷ ts) ess a e =
      on_each (map_from ms) t ts e λ es ess u v q.
      rw (← q) (any_append (is_id i k) (map (λ (e : Entry). id j e.key) es) (ids_from (suc j) ess)
      ∙ ap₂ ◌||◌ (ids-of j t.member es a.0 (keys-are ms t es u)) (ids-from (suc j) ts ess a.1 v))

  ids-seen : (ess : List (List Entry)) → each (map_from ms) maps ≡ some ess → any (is_id i k) (ids_from 0 ess) ≡ used_in x k (C.before ms)
  ids-seen ess e =
      ids-from 0 maps ess (refl, (refl, (refl, (refl, (refl, (refl, (refl, tt))))))) e
      ∙ sym (not-names uses ms refl refl ∙ ap (λ (b : Bool). of_maps uses ms || b) (no_other uses ms (λ n j. refl)) ∙ or-none (of_maps uses ms))

-- ---- the whole

abbrev map_rules : List C.Rule
map_rules =
    C.may (ascii "nicknames") (C.under_keys C.nickname) ∷ C.may (ascii "emails") (C.under_keys C.email) ∷ C.may (ascii "phones") (C.under_keys C.phone) ∷ C.may (ascii "links") (C.under_keys C.link)
    ∷ C.may (ascii "notes") (C.under_keys C.note) ∷ C.may (ascii "titles") (C.under_keys C.title) ∷ C.may (ascii "organizations") (C.under_keys C.organization) ∷ []

module _ (ms : List Member) where
  abbrev read_uid : Option Bytes
  read_uid = required (ascii "uid") (λ v. chain (as_string v) λ u. provided (C.filled u) (some u)) ms

  abbrev read_kind : Option Bytes
  read_kind = optional (ascii "kind") [] (λ v. chain (as_string v) λ k. provided (is_lower_word k) (some k)) ms

  abbrev read_kept : Option (List Kept)
  read_kept = optional (ascii "vCardProps") [] (λ v. chain (as_array v) (each kept_from)) ms

  abbrev prop_rule : C.Rule
  prop_rule = C.may (ascii "vCardProps") (C.an_array (all (C.is_prop (C.before ms))))

  uid-is : is_some read_uid ≡ C.obeyed ms (C.must (ascii "uid") (C.a_string C.filled))
  uid-is = some_chain (field (ascii "uid") ms) _ _ (λ v. some_chain (as_string v) _ C.filled (λ u. provided-one (C.filled u) u))

  kind-is : is_some read_kind ≡ C.obeyed ms (C.may (ascii "kind") (C.a_string C.lower_name))
  kind-is = some-optional (field (ascii "kind") ms) _ [] _ (λ v. some_chain (as_string v) _ C.lower_name (λ k. provided-one (is_lower_word k) k ∙ lower_word k))

  maps-are : is_some (each (map_from ms) maps) ≡ all (C.obeyed ms) map_rules
  unfolding all
  maps-are =
      some-each (map_from ms) (λ t. is_some (map_from ms t)) (λ t. refl) maps
      ∙ ap₂ ◌&&◌ (map_is _ C.nickname nickname-row ms) (ap₂ ◌&&◌ (map_is _ C.email email-row ms) (ap₂ ◌&&◌ (map_is _ C.phone phone-row ms) (ap₂ ◌&&◌ (map_is _ C.link link_row ms)
      (ap₂ ◌&&◌ (map_is _ C.note note-row ms) (ap₂ ◌&&◌ (map_is _ C.title title-row ms) (ap (λ (b : Bool). b && true) (map_is _ C.organization organization-row ms)))))))

  -- ---- vCardProps, after all others

  abbrev card_of : Bytes → Bytes → Name → List (List Entry) → List Kept → Card
  card_of u k n es ks = record { uid = u; kind = k; full = n.full; parts = n.parts; maps = es; members = other_members ms; kept = ks }

  abbrev seen_by : Name → List (List Entry) → Seen
  seen_by n es = record { full = is_some n.full; parts = has_parts n.parts; ids = ids_from 0 es; members = map name_of (other_members ms) }

  pub knows : (n : Name) (es : List (List Entry)) → optional (ascii "name") nameless name_from ms ≡ some n → each (map_from ms) maps ≡ some es → Knows (seen_by n es) (C.before ms)
  knows n es e f = record { full = full-seen ms n e; parts = parts_seen ms n e; ids = λ i x h k. ids-seen ms i x h k es f; members = members-seen ms }

  kept-is : (u k : Bytes) (n : Name) (es : List (List Entry)) → Knows (seen_by n es) (C.before ms) → is_some (chain read_kept λ ks. standing (card_of u k n es ks)) ≡ C.obeyed ms prop_rule
  unfolding standing seen_in all
  kept-is u k n es h =
      on_some (field (ascii "vCardProps") ms) (λ z. rw z) λ j z.
      on_some (as_array j) (λ a. rw (z, a)) λ js a.
      rw (z, a) (some_chain (each kept_from js) _ (all (kept_stands (seen_by n es))) (λ ks. provided-one (all (kept_stands (seen_by n es)) ks) (card_of u k n es ks)) ∙ props-are (seen_by n es) (C.before ms) h js)

  card-is : is_some (card_from_members ms) ≡ all (λ m. C.filled (name_of m)) ms && all (C.obeyed ms) (C.top_rules ms)
  unfolding card_from_members all
  card-is =
      let a : Bool = C.obeyed ms (C.must (ascii "@type") (C.a_string (same (ascii "Card")))) in
      let b : Bool = C.obeyed ms (C.must (ascii "version") (C.a_string (same (ascii "1.0")))) in
      let c : Bool = all (λ m. C.filled (name_of m)) ms in
      let u : Bool = C.obeyed ms (C.must (ascii "uid") (C.a_string C.filled)) in
      let k : Bool = C.obeyed ms (C.may (ascii "kind") (C.a_string C.lower_name)) in
      let n : Bool = C.obeyed ms (C.may (ascii "name") (C.an_object C.a_name)) in
      let m : Bool = all (C.obeyed ms) map_rules in
      let v : Bool = C.obeyed ms prop_rule in
      some-provided (a && b && c) _
      ∙ ap (λ (x : Bool). (a && b && c) && x)
      (chain-and read_uid _ u (k && (n && (m && v))) uid-is λ uid e₁.
      chain-and read_kind _ k (n && (m && v)) kind-is λ kind e₂.
      chain-and (optional (ascii "name") nameless name_from ms) _ n (m && v) (some-optional (field (ascii "name") ms) name_from nameless (C.an_object C.a_name) name-is) λ name e₃.
      chain-and (each (map_from ms) maps) _ m v maps-are λ es e₄.
      kept-is uid kind name es (knows name es e₃ e₄))
      ∙ front a b c (u && (k && (n && (m && v))))
      ∙ ap (λ (x : Bool). c && (a && (b && (u && (k && (n && x)))))) (ap (λ (x : Bool). m && x) (sym (and_one v)) ∙ sym (all_append (C.obeyed ms) map_rules (prop_rule ∷ [])))
    where
      front : (a b c r : Bool) → (a && b && c) && r ≡ c && (a && (b && r))
      front false b c r = sym (and_none c)
      front true false c r = sym (and_none c)
      front true true c r = refl

-- JSON is a card of 01 exactly where it is read as one
pub card-json : (j : Json) → is_some (card_from_json j) ≡ C.is_card j
unfolding card_from_json C.is_card
card-json j = some_chain (as_object j) card_from_members _ card-is
