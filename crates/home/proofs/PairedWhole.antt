-- The JSON of a card is what stands for its lines, and nothing else.
use mathlib.Core.Path.{◌≡◌, refl, sym, ap, ap₂, ◌∙◌}
use mathlib.Core.Bool.{true, false, ◌||◌, not}
use mathlib.Core.List.{List, [], ◌∷◌, ◌++◌, map, map-id}
use mathlib.Core.Option.{Option, none}
use Prim.Native.Nat.{ℕ, zero, suc, ◌≤◌}
use native.Mathlib.Omega.{arith}
use lib.ListN.{length}
use lib.Dec.{eqb}
use borrow.Author.Tests.{eqb-true}
use Rattle.text.specs.Choice.{is_some}
use Rattle.text.specs.Bytes.{Bytes, ascii, empty, any, all, same, among, flat, keep}
use Rattle.text.proofs.Cases.{by_bool, not-true, NoneOf, by_keys, testing}
use Rattle.text.specs.Decimal.{decimal}
use Rattle.text.proofs.Lists.{all_head, map_both}
use Rattle.json_text.specs.Tree.{jstr, Member, member, object, array}
use Rattle.line.specs.Grammar.{Line}
use Rattle.convert.specs.Table.{Map, maps, component_kinds}
use Rattle.convert.specs.Model.{Entry, Kept, has_parts, no_parts}
use Rattle.convert.specs.Value.{filled}
use Rattle.convert.specs.Classify.{Class, as-version, as-uid, as-kind, as_dropped, as-full, as_parts, as-entry, as_member, as-kept, Seen, nothing, Classed, classed_after, classed}
use Rattle.convert.specs.Keys.{numbered, fresh, keys_after, keys}
use Rattle.convert.specs.FromCard.{Placed, Gives, gives, gathered, first_of, or_else, in_map, with_keys, keyed_entries, maps_from, made_uid, card_of_classed, card_of_lines}
use Rattle.convert.specs.ToJson.{where', components_of, name_json, entry_json, maps_json, kept_json, members_json}
use Rattle.convert.specs.Answers.{emptied, second_from}
use Rattle.convert.proofs.CardParts.{has-no-parts}
use Rattle.convert.proofs.Fresh.{number_from, fresh-numbered, fresh-unused, fresh-least}
use Rattle.home.specs.StandsFor as S
use Rattle.home.proofs.Images.{AtMostOne}
use Rattle.home.proofs.Once.{few, one-named, one_seen, gathered-all}
use Rattle.home.proofs.NormalCardHead.{uid-named, kind-named, kind-filled}
use Rattle.home.proofs.NormalCardName.{full-once, parts-once, parts-left, any-nothing}
use Rattle.home.proofs.OwnEntry.{where_filled}
use Rattle.home.proofs.PairedTypes.{where-any}
use Rattle.home.proofs.PairedEntries.{map_at, name_at, body_of}
use Rattle.home.proofs.PairedLines.{stand_of, stands_of}

-- ---- what stands in one place is what the lines give to it

module _ {A B : Type 0} (f : S.Stand → List B) (g : Gives → List A) (h : A → B) where
  abbrev Gathers : Type 0
  Gathers = (l : Line) (c : Class) → f (stand_of l c) ≡ map h (g (gives l c))

  all-gathered : Gathers → (cs : List Classed) → S.all_of f (stands_of cs) ≡ map h (gathered g cs)
  unfolding S.all_of gathered flat
  all-gathered p [] = refl
  all-gathered p (c ∷ cs) = ap₂ ◌++◌ (p c.line c.class) (all-gathered p cs) ∙ sym (map_both h (g (gives c.line c.class)) _)

uids-gathered : Gathers S.uid_in (λ (g : Gives). g.uid) (λ v. v)
uids-gathered l as-version = refl
uids-gathered l (as-uid v) = refl
uids-gathered l (as-kind v) = refl
uids-gathered l as_dropped = refl
uids-gathered l (as-full v) = refl
uids-gathered l (as_parts ps) = refl
uids-gathered l (as-entry i e) = refl
uids-gathered l (as_member n j) = refl
uids-gathered l as-kept = refl

kinds-gathered : Gathers S.kind_in (λ (g : Gives). g.kind) (λ v. v)
kinds-gathered l as-version = refl
kinds-gathered l (as-uid v) = refl
kinds-gathered l (as-kind v) = refl
kinds-gathered l as_dropped = refl
kinds-gathered l (as-full v) = refl
kinds-gathered l (as_parts ps) = refl
kinds-gathered l (as-entry i e) = refl
kinds-gathered l (as_member n j) = refl
kinds-gathered l as-kept = refl

abbrev full-member : Bytes → Member
full-member v = member (ascii "full") (jstr v)

abbrev parts-member : List (List Bytes) → Member
parts-member ps = member (ascii "components") (array (components_of component_kinds ps))

fulls-gathered : Gathers S.full_in (λ (g : Gives). g.full) full-member
fulls-gathered l as-version = refl
fulls-gathered l (as-uid v) = refl
fulls-gathered l (as-kind v) = refl
fulls-gathered l as_dropped = refl
fulls-gathered l (as-full v) = refl
fulls-gathered l (as_parts ps) = refl
fulls-gathered l (as-entry i e) = refl
fulls-gathered l (as_member n j) = refl
fulls-gathered l as-kept = refl

parts-gathered : Gathers S.components_in (λ (g : Gives). g.parts) parts-member
parts-gathered l as-version = refl
parts-gathered l (as-uid v) = refl
parts-gathered l (as-kind v) = refl
parts-gathered l as_dropped = refl
parts-gathered l (as-full v) = refl
parts-gathered l (as_parts ps) = refl
parts-gathered l (as-entry i e) = refl
parts-gathered l (as_member n j) = refl
parts-gathered l as-kept = refl

members-gathered : Gathers S.member_in (λ (g : Gives). g.member) (λ m. m)
members-gathered l as-version = refl
members-gathered l (as-uid v) = refl
members-gathered l (as-kind v) = refl
members-gathered l as_dropped = refl
members-gathered l (as-full v) = refl
members-gathered l (as_parts ps) = refl
members-gathered l (as-entry i e) = refl
members-gathered l (as_member n j) = refl
members-gathered l as-kept = refl

props-gathered : Gathers S.prop_in (λ (g : Gives). g.kept) kept_json
props-gathered l as-version = refl
props-gathered l (as-uid v) = refl
props-gathered l (as-kind v) = refl
props-gathered l as_dropped = refl
props-gathered l (as-full v) = refl
props-gathered l (as_parts ps) = refl
props-gathered l (as-entry i e) = refl
props-gathered l (as_member n j) = refl
props-gathered l as-kept = refl

-- ---- the maps

abbrev unkeyed : Map → Entry → S.Unkeyed
unkeyed m e = record { ids = where_filled e.key; entry = body_of m e }

-- the map at place i is the one of this name
abbrev pub Named : ℕ → Bytes → Type 0
Named i x = (j : ℕ) → same (name_at j) x ≡ eqb i j

module _ (i : ℕ) (x : Bytes) (h : Named i x) where
  abbrev Same : List S.Unkeyed → List Placed → Type 0
  Same us ps = us ≡ map (unkeyed (map_at i)) (in_map i ps)

  one_entry : (l : Line) (c : Class) (us : List S.Unkeyed) (ps : List Placed) → Same us ps → Same (S.entry_in x (stand_of l c) ++ us) ((gives l c).entry ++ ps)
  unfolding in_map
  one_entry l as-version us ps r = r
  one_entry l (as-uid v) us ps r = r
  one_entry l (as-kind v) us ps r = r
  one_entry l as_dropped us ps r = r
  one_entry l (as-full v) us ps r = r
  one_entry l (as_parts vs) us ps r = r
  one_entry l (as-entry j e) us ps r =
      by_bool (eqb i j)
      (λ q. rw (h j, q) (ap₂ (λ (k : ℕ) (vs : List S.Unkeyed). unkeyed (map_at k) e ∷ vs) (sym (eqb-true i j q)) r))
      (λ q. rw (h j, q) r)
  one_entry l (as_member n j) us ps r = r
  one_entry l as-kept us ps r = r

  entries-gathered : (cs : List Classed) → Same (S.all_of (S.entry_in x) (stands_of cs)) (gathered (λ (g : Gives). g.entry) cs)
  unfolding S.all_of gathered flat in_map
  entries-gathered [] = refl
  entries-gathered (c ∷ cs) = one_entry c.line c.class (S.all_of (S.entry_in x) (stands_of cs)) (gathered (λ (g : Gives). g.entry) cs) (entries-gathered cs)

-- ---- keys

pub positive : (f : ℕ) (p : Bytes) (n : ℕ) (used : List Bytes) → n ≤ number_from f p n used
unfolding number_from
positive zero p n used = omega arith
positive (suc f) p n used = by_bool (among (numbered p n) used) (λ e. rw e (omega (arith, positive f p (suc n) used))) (λ e. rw e (omega arith))

ids-in : (m : Map) (es : List Entry) → keep (λ k. not (empty k)) (map (λ (e : Entry). e.key) es) ≡ S.ids_in (map (unkeyed m) es)
unfolding keep flat
ids-in m [] = refl
ids-in m (e ∷ es) = by_bool (empty e.key) (λ q. rw q (ids-in m es)) (λ q. rw q (ap (λ (ks : List Bytes). e.key ∷ ks) (ids-in m es)))

keys-right : (p : Bytes) (m : Map) (used : List Bytes) (es : List Entry) → S.KeysFor p used (map (unkeyed m) es) (keys_after p used (map (λ (e : Entry). e.key) es))
unfolding keys_after numbered fresh
keys-right p m used [] = S.no-entry
keys-right p m used (e ∷ es) =
    by_bool (empty e.key)
    (λ q. let n : ℕ = number_from (length used) p 1 used in
    let i : fresh p used ≡ S.numbered p n = fresh-numbered (length used) p 1 used in
    rw q (rw i (S.made-key {n = n} (positive (length used) p 1 used) (ap (λ (k : Bytes). among k used) (sym i) ∙ fresh-unused p used) (λ k a b. fresh-least p used k a b) (keys-right p m (S.numbered p n ∷ used) es))))
    (λ q. rw q (S.given-key (keys-right p m (e.key ∷ used) es)))

under-keys : (m : Map) (ks : List Bytes) (es : List Entry) → map (entry_json m) (with_keys ks es) ≡ S.under_keys ks (map (unkeyed m) es)
unfolding with_keys entry_json
under-keys m [] es = refl
under-keys m (k ∷ ks) [] = refl
under-keys m (k ∷ ks) (e ∷ es) = ap (λ (ms : List Member). member k (object (body_of m e)) ∷ ms) (under-keys m ks es)

-- ---- one map

abbrev map_member : Map → List Entry → List Member
map_member m es = where' (not (empty (keyed_entries m es))) (member m.member (object (map (entry_json m) (keyed_entries m es))))

map-stands : (i : ℕ) (x p : Bytes) → Named i x → (map_at i).member ≡ x → (map_at i).prefix ≡ p → (cs : List Classed)
    → S.MapOf (stands_of cs) x p (map_member (map_at i) (in_map i (gathered (λ (g : Gives). g.entry) cs)))
unfolding keys
map-stands i x p h a b cs =
    let es : List Entry = in_map i (gathered (λ (g : Gives). g.entry) cs) in
    let u : S.all_of (S.entry_in x) (stands_of cs) ≡ map (unkeyed (map_at i)) es = entries-gathered i x h cs in
    let ks : List Bytes = keys p (map (λ (e : Entry). e.key) es) in
    record {
      keys = ks;
      right = rw (u, ← ids-in (map_at i) es) (keys-right p (map_at i) (keep (λ k. not (empty k)) (map (λ (e : Entry). e.key) es)) es);
      whole =
          where-any (map_at i).member (entry_json (map_at i)) (keyed_entries (map_at i) es)
          ∙ ap₂ (λ (y q : Bytes). S.where_any y (map (entry_json (map_at i)) (with_keys (keys q (map (λ (e : Entry). e.key) es)) es))) a b
          ∙ ap (S.where_any x) (under-keys (map_at i) ks es ∙ ap (S.under_keys ks) (sym u));
    }

-- ---- the seven maps

abbrev pub places : List ℕ
places = 0 ∷ 1 ∷ 2 ∷ 3 ∷ 4 ∷ 5 ∷ 6 ∷ []

pub named_by : (i : ℕ) (x : Bytes) → same [] x ≡ false → map (λ j. same (name_at j) x) places ≡ map (λ j. eqb i j) places → ((j : ℕ) → NoneOf j places → eqb j i ≡ false) → Named i x
named_by i x h e k j =
    by_keys (λ j. same (name_at j) x) (λ j. eqb i j) j places e
    (λ n. let q = k j n in
    let r : eqb i j ≡ false = omega testing in
    rw (n.0, n.1.0, n.1.1.0, n.1.1.1.0, n.1.1.1.1.0, n.1.1.1.1.1.0, n.1.1.1.1.1.1.0) (h ∙ sym r))

pub maps-stand : (cs : List Classed) → S.MapsOf (stands_of cs) (maps_json maps (maps_from 0 maps (gathered (λ (g : Gives). g.entry) cs)))
unfolding maps_json maps_from same flat
maps-stand cs =
    let ps : List Placed = gathered (λ (g : Gives). g.entry) cs in
    record {
      nicknames = map_member (map_at 0) (in_map 0 ps);
      emails = map_member (map_at 1) (in_map 1 ps);
      phones = map_member (map_at 2) (in_map 2 ps);
      links = map_member (map_at 3) (in_map 3 ps);
      notes = map_member (map_at 4) (in_map 4 ps);
      titles = map_member (map_at 5) (in_map 5 ps);
      organizations = map_member (map_at 6) (in_map 6 ps);
      nickname = map-stands 0 (ascii "nicknames") (ascii "NICK") (named_by 0 (ascii "nicknames") refl refl (λ j n. n.0)) refl refl cs;
      email = map-stands 1 (ascii "emails") (ascii "EMAIL") (named_by 1 (ascii "emails") refl refl (λ j n. n.1.0)) refl refl cs;
      phone = map-stands 2 (ascii "phones") (ascii "PHONE") (named_by 2 (ascii "phones") refl refl (λ j n. n.1.1.0)) refl refl cs;
      link = map-stands 3 (ascii "links") (ascii "LINK") (named_by 3 (ascii "links") refl refl (λ j n. n.1.1.1.0)) refl refl cs;
      note = map-stands 4 (ascii "notes") (ascii "NOTE") (named_by 4 (ascii "notes") refl refl (λ j n. n.1.1.1.1.0)) refl refl cs;
      title = map-stands 5 (ascii "titles") (ascii "TITLE") (named_by 5 (ascii "titles") refl refl (λ j n. n.1.1.1.1.1.0)) refl refl cs;
      organization = map-stands 6 (ascii "organizations") (ascii "ORG") (named_by 6 (ascii "organizations") refl refl (λ j n. n.1.1.1.1.1.1.0)) refl refl cs;
      whole = refl;
    }

-- ---- the head and the rest

uid-one : (made : Bytes) (vs : List Bytes) → AtMostOne vs → member (ascii "uid") (jstr (or_else (first_of vs) made)) ∷ [] ≡ S.strings (ascii "uid") (S.or_made made vs)
uid-one made [] o = refl
uid-one made (v ∷ []) o = refl
uid-one made (v ∷ (w ∷ ws)) o = absurd o

kind-one : (vs : List Bytes) → AtMostOne vs → all filled vs ≡ true → where' (filled (or_else (first_of vs) [])) (member (ascii "kind") (jstr (or_else (first_of vs) []))) ≡ S.strings (ascii "kind") vs
kind-one [] o h = refl
kind-one (v ∷ []) o h = rw (not-true (empty v) (all_head filled v [] h))
kind-one (v ∷ (w ∷ ws)) o h = absurd o

abbrev name_member : Option Bytes → List (List Bytes) → List Member
name_member f ps = where' (is_some f || has_parts ps) (member (ascii "name") (name_json f ps))

name-one : (fs : List Bytes) (pss : List (List (List Bytes))) → AtMostOne fs → AtMostOne pss → all has_parts pss ≡ true
    → name_member (first_of fs) (or_else (first_of pss) no_parts) ≡ S.where_any (ascii "name") (map full-member fs ++ map parts-member pss)
unfolding name_json
name-one [] [] o q h = rw has-no-parts
name-one (f ∷ []) [] o q h = rw has-no-parts
name-one [] (ps ∷ []) o q h = rw (all_head has_parts ps [] h)
name-one (f ∷ []) (ps ∷ []) o q h = rw (all_head has_parts ps [] h)
name-one (f ∷ (g ∷ fs)) pss o q h = absurd o
name-one [] (ps ∷ (qs ∷ pss)) o q h = absurd q
name-one (f ∷ []) (ps ∷ (qs ∷ pss)) o q h = absurd q

props-one : (ks : List Kept) → where' (not (empty ks)) (member (ascii "vCardProps") (array (map kept_json ks))) ≡ S.where_props (map kept_json ks)
props-one [] = refl
props-one (k ∷ ks) = refl

-- ---- the whole

module _ (stem : Bytes) (n : ℕ) (ls : List Line) (once : second_from 1 [] ls ≡ none) (valued : any emptied ls ≡ false) where
  abbrev cs : List Classed
  cs = classed_after nothing ls

  abbrev ts : List S.Stand
  ts = stands_of cs

  uid-stands : member (ascii "uid") (jstr (or_else (first_of (gathered (λ (g : Gives). g.uid) cs)) (made_uid stem n))) ∷ [] ≡ S.strings (ascii "uid") (S.or_made (stem ++ 45 ∷ decimal n) (S.all_of S.uid_in ts))
  unfolding made_uid same among any
  uid-stands =
      uid-one (made_uid stem n) (gathered (λ (g : Gives). g.uid) cs) (one-named (λ (g : Gives). g.uid) (ascii "uid") uid-named (λ l c. (few l c).0) refl 1 [] nothing ls once)
      ∙ ap (λ (vs : List Bytes). S.strings (ascii "uid") (S.or_made (stem ++ 45 ∷ decimal n) vs)) (sym (all-gathered S.uid_in (λ (g : Gives). g.uid) (λ v. v) uids-gathered cs ∙ map-id (gathered (λ (g : Gives). g.uid) cs)))

  kind-stands : where' (filled (or_else (first_of (gathered (λ (g : Gives). g.kind) cs)) [])) (member (ascii "kind") (jstr (or_else (first_of (gathered (λ (g : Gives). g.kind) cs)) []))) ≡ S.strings (ascii "kind") (S.all_of S.kind_in ts)
  unfolding same among any
  kind-stands =
      kind-one (gathered (λ (g : Gives). g.kind) cs) (one-named (λ (g : Gives). g.kind) (ascii "kind") kind-named (λ l c. (few l c).1) refl 1 [] nothing ls once)
      (gathered-all (λ (g : Gives). g.kind) filled emptied kind-filled nothing ls valued)
      ∙ ap (S.strings (ascii "kind")) (sym (all-gathered S.kind_in (λ (g : Gives). g.kind) (λ v. v) kinds-gathered cs ∙ map-id (gathered (λ (g : Gives). g.kind) cs)))

  name-stands : name_member (first_of (gathered (λ (g : Gives). g.full) cs)) (or_else (first_of (gathered (λ (g : Gives). g.parts) cs)) no_parts) ≡ S.where_any (ascii "name") (S.all_of S.full_in ts ++ S.all_of S.components_in ts)
  name-stands =
      name-one (gathered (λ (g : Gives). g.full) cs) (gathered (λ (g : Gives). g.parts) cs)
      (one_seen (λ (g : Gives). g.full) (λ (t : Seen). t.full) full-once (λ l c. (few l c).2) nothing ls)
      (one_seen (λ (g : Gives). g.parts) (λ (t : Seen). t.parts) parts-once (λ l c. (few l c).3) nothing ls)
      (gathered-all (λ (g : Gives). g.parts) has_parts (λ l. false) parts-left nothing ls (any-nothing ls))
      ∙ ap₂ (λ (a b : List Member). S.where_any (ascii "name") (a ++ b)) (sym (all-gathered S.full_in (λ (g : Gives). g.full) full-member fulls-gathered cs)) (sym (all-gathered S.components_in (λ (g : Gives). g.parts) parts-member parts-gathered cs))

  members-stand : gathered (λ (g : Gives). g.member) cs ≡ S.all_of S.member_in ts
  members-stand = sym (all-gathered S.member_in (λ (g : Gives). g.member) (λ m. m) members-gathered cs ∙ map-id (gathered (λ (g : Gives). g.member) cs))

  props-stand : where' (not (empty (gathered (λ (g : Gives). g.kept) cs))) (member (ascii "vCardProps") (array (map kept_json (gathered (λ (g : Gives). g.kept) cs)))) ≡ S.where_props (S.all_of S.prop_in ts)
  props-stand = props-one (gathered (λ (g : Gives). g.kept) cs) ∙ ap S.where_props (sym (all-gathered S.prop_in (λ (g : Gives). g.kept) kept_json props-gathered cs))

  abbrev pub map_members : List Member
  map_members = maps_json maps (maps_from 0 maps (gathered (λ (g : Gives). g.entry) cs))

  pub members-are : members_json (card_of_lines stem n ls) ≡ S.json_of stem n ts map_members
  unfolding members_json card_of_lines card_of_classed classed S.json_of
  members-are =
      ap (λ (ms : List Member). member (ascii "@type") (jstr (ascii "Card")) ∷ member (ascii "version") (jstr (ascii "1.0")) ∷ ms)
      (ap₂ ◌++◌ (ap₂ ◌++◌ (ap (λ (ms : List Member). ms ++ map_members) (ap₂ ◌++◌ (ap₂ ◌++◌ uid-stands kind-stands) name-stands)) members-stand) props-stand)
