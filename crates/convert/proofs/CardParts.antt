-- The members of a card's JSON, by name, and what is read of each.
use mathlib.Core.Path.{◌≡◌, refl, sym, ap, ◌∙◌}
use mathlib.Core.Bool.{true, false, ◌||◌, not}
use mathlib.Core.List.{List, [], ◌∷◌, ◌++◌, map}
use mathlib.Core.Option.{Option, none, some}
use Rattle.text.specs.Choice.{pick, chain, provided, with-some, is_some}
use Rattle.text.specs.Bytes.{Bytes, ascii, any, empty, same, among, distinct, each}
use Rattle.text.proofs.Cases.{by_bool, or_left, or_right, not-both}
use Rattle.text.proofs.Same.{same_true, OfAll, among_of}
use Rattle.json_text.specs.Tree.{jstr, Member, member, array, field, as_string, as_array}
use Rattle.json_text.proofs.Listed.{elems-listed, either, field-none, field-append, field-later}
use Rattle.convert.specs.Table.{maps, reserved}
use Rattle.convert.specs.Model.{Kept, Card, has_parts, no_parts}
use Rattle.convert.specs.Value.{filled}
use Rattle.convert.specs.FromJson.{optional, is_lower_word, nameless, name_from, map_from, kept_from}
use Rattle.convert.specs.ToJson.{where', name_json, maps_json, kept_json, members_json}
use Rattle.convert.proofs.EntryParts.{right-none, where-same, where-other}
use Rattle.convert.proofs.NameJson.{name-json, no-parts}
use Rattle.convert.proofs.KeptLines.{kept-json}
use Rattle.convert.proofs.Proper.{Seven, GoodMembers, AllKept, ProperCard, all-rows}
use Rattle.convert.proofs.MapsJson.{member_names, maps-other, maps-back}

-- ---- members that JSPROP lines make

members-other : (n : Bytes) (ms : List Member) → GoodMembers ms → among n reserved ≡ true → field n ms ≡ none
members-other n [] g h = field-none n
members-other n (member m j ∷ ms) g h =
    let d : same m n ≡ false = by_bool (same m n) (λ e. not-both h (rw (← same_true m n e) g.1)) (λ e. e) in
    field-later n m j ms d ∙ members-other n ms g.3 h

-- a map's name is in the table of reserved names, and none of the others
abbrev MapName : Bytes → Type 0
MapName n =
    (same (ascii "@type") n ≡ false) × (same (ascii "version") n ≡ false) × (same (ascii "uid") n ≡ false) × (same (ascii "kind") n ≡ false) × (same (ascii "name") n ≡ false)
    × (same (ascii "vCardProps") n ≡ false) × (among n reserved ≡ true)

map-names : OfAll MapName (member_names maps)
unfolding same among any
map-names = (
  (refl, refl, refl, refl, refl, refl, refl),
  (
    (refl, refl, refl, refl, refl, refl, refl),
    (
      (refl, refl, refl, refl, refl, refl, refl),
      (
        (refl, refl, refl, refl, refl, refl, refl),
        ((refl, refl, refl, refl, refl, refl, refl), ((refl, refl, refl, refl, refl, refl, refl), ((refl, refl, refl, refl, refl, refl, refl), tt))),
      ),
    ),
  ),
)

each-kept : (ks : List Kept) → AllKept ks → each kept_from (map kept_json ks) ≡ some ks
unfolding each
each-kept [] g = refl
each-kept (k ∷ ks) g = rw (kept-json k g.0, each-kept ks g.1)

pub has-no-parts : has_parts no_parts ≡ false
unfolding has_parts any
has-no-parts = refl

name_back : (full : Option Bytes) (ps : List (List Bytes)) → Seven ps → with-some (pick (is_some full || has_parts ps) (some (name_json full ps)) none) name_from (some nameless) ≡ some (record { full = full; parts = ps })
name_back full ps s =
    let a = s.0 in let b = s.1 in let c = s.2 in let d = s.3 in let e = s.4 in let f = s.5 in let g = s.6 in
    rw s.7 (by_bool (is_some full || has_parts (a ∷ b ∷ c ∷ d ∷ e ∷ f ∷ g ∷ []))
    (λ h. rw h (name-json a b c d e f g full s.8 h))
    (λ h. rw h (no_name full (or_left (is_some full) _ h) (no-parts a b c d e f g (or_right (is_some full) _ h)))))
  where
    no_name : (full : Option Bytes) {qs : List (List Bytes)} → is_some full ≡ false → qs ≡ no_parts → some nameless ≡ some (record { full = full; parts = qs })
    no_name (some v) h e = not-both refl h
    no_name none h e = ap (λ (x : List (List Bytes)). some (record { full = none; parts = x })) (sym e)

names-differ : distinct (member_names maps) ≡ true
unfolding distinct among any same
names-differ = refl

-- ---- the parts of a card

module _ (c : Card) (g : ProperCard c) where
  abbrev pub kind_part : List Member
  kind_part = where' (filled c.kind) (member (ascii "kind") (jstr c.kind))

  abbrev pub name_part : List Member
  name_part = where' (is_some c.full || has_parts c.parts) (member (ascii "name") (name_json c.full c.parts))

  abbrev pub maps_part : List Member
  maps_part = maps_json maps c.maps

  abbrev pub kept_part : List Member
  kept_part = where' (not (empty c.kept)) (member (ascii "vCardProps") (array (map kept_json c.kept)))

  abbrev pub later : List Member
  later = kind_part ++ name_part ++ maps_part ++ c.members ++ kept_part

  abbrev pub whole : List Member
  whole = member (ascii "@type") (jstr (ascii "Card")) ∷ member (ascii "version") (jstr (ascii "1.0")) ∷ member (ascii "uid") (jstr c.uid) ∷ later

  pub whole-members : members_json c ≡ whole
  unfolding members_json
  whole-members = refl

  look : (n : Bytes) → field n later ≡ either (either (either (either (field n kind_part) (field n name_part)) (field n maps_part)) (field n c.members)) (field n kept_part)
  look n =
      rw (field-append n (kind_part ++ name_part ++ maps_part ++ c.members) kept_part, field-append n (kind_part ++ name_part ++ maps_part) c.members, field-append n (kind_part ++ name_part) maps_part, field-append n kind_part name_part)

  past_three : (n : Bytes) → same (ascii "@type") n ≡ false → same (ascii "version") n ≡ false → same (ascii "uid") n ≡ false → field n whole ≡ field n later
  past_three n p q r = field-later n (ascii "@type") _ _ p ∙ field-later n (ascii "version") _ _ q ∙ field-later n (ascii "uid") _ _ r

  reserved-member : (n : Bytes) → among n reserved ≡ true → field n c.members ≡ none
  reserved-member n h = members-other n c.members g.members h

  look-kind : field (ascii "kind") whole ≡ pick (filled c.kind) (some (jstr c.kind)) none
  unfolding same among any
  look-kind =
      past_three (ascii "kind") refl refl refl ∙ look (ascii "kind")
      ∙ rw (
        where-same (ascii "kind") (filled c.kind) (jstr c.kind),
        where-other (ascii "kind") (ascii "name") (is_some c.full || has_parts c.parts) (name_json c.full c.parts) refl,
        maps-other (ascii "kind") maps c.maps refl,
        reserved-member (ascii "kind") refl,
        where-other (ascii "kind") (ascii "vCardProps") (not (empty c.kept)) (array (map kept_json c.kept)) refl,
      ) (simp right-none)

  look-name : field (ascii "name") whole ≡ pick (is_some c.full || has_parts c.parts) (some (name_json c.full c.parts)) none
  unfolding same among any
  look-name =
      past_three (ascii "name") refl refl refl ∙ look (ascii "name")
      ∙ rw (
        where-other (ascii "name") (ascii "kind") (filled c.kind) (jstr c.kind) refl,
        where-same (ascii "name") (is_some c.full || has_parts c.parts) (name_json c.full c.parts),
        maps-other (ascii "name") maps c.maps refl,
        reserved-member (ascii "name") refl,
        where-other (ascii "name") (ascii "vCardProps") (not (empty c.kept)) (array (map kept_json c.kept)) refl,
      ) (simp right-none)

  look-kept : field (ascii "vCardProps") whole ≡ pick (not (empty c.kept)) (some (array (map kept_json c.kept))) none
  unfolding same among any
  look-kept =
      past_three (ascii "vCardProps") refl refl refl ∙ look (ascii "vCardProps")
      ∙ rw (
        where-other (ascii "vCardProps") (ascii "kind") (filled c.kind) (jstr c.kind) refl,
        where-other (ascii "vCardProps") (ascii "name") (is_some c.full || has_parts c.parts) (name_json c.full c.parts) refl,
        maps-other (ascii "vCardProps") maps c.maps refl,
        reserved-member (ascii "vCardProps") refl,
        where-same (ascii "vCardProps") (not (empty c.kept)) (array (map kept_json c.kept)),
      )

  look-map : (n : Bytes) → among n (member_names maps) ≡ true → field n whole ≡ field n maps_part
  look-map n h =
      let t = among_of MapName (member_names maps) map-names n h in
      past_three n t.0 t.1 t.2 ∙ look n
      ∙ rw (
        where-other n (ascii "kind") (filled c.kind) (jstr c.kind) t.3,
        where-other n (ascii "name") (is_some c.full || has_parts c.parts) (name_json c.full c.parts) t.4,
        reserved-member n t.6,
        where-other n (ascii "vCardProps") (not (empty c.kept)) (array (map kept_json c.kept)) t.5,
      ) (simp right-none)

  -- ---- each part is read back

  pub read-type : (field (ascii "@type") whole ≡ some (jstr (ascii "Card"))) × (field (ascii "version") whole ≡ some (jstr (ascii "1.0"))) × (field (ascii "uid") whole ≡ some (jstr c.uid))
  unfolding field same
  read-type = (refl, refl, refl)

  pub read-kind : optional (ascii "kind") [] (λ v. chain (as_string v) λ k. provided (is_lower_word k) (some k)) whole ≡ some c.kind
  read-kind = rw look-kind (by c.kind g.kind)
    where
      by : (k : Bytes) → empty k || is_lower_word k ≡ true → with-some (pick (filled k) (some (jstr k)) none) (λ v. chain (as_string v) λ k. provided (is_lower_word k) (some k)) (some []) ≡ some k
      by [] h = refl
      by (x ∷ k) h = rw h

  pub read_kept : optional (ascii "vCardProps") [] (λ v. chain (as_array v) (each kept_from)) whole ≡ some c.kept
  read_kept = rw look-kept (by c.kept (each-kept c.kept g.kept))
    where
      by : (ks : List Kept) → each kept_from (map kept_json ks) ≡ some ks → with-some (pick (not (empty ks)) (some (array (map kept_json ks))) none) (λ v. chain (as_array v) (each kept_from)) (some []) ≡ some ks
      by [] h = refl
      by (k ∷ ks) h = rw (elems-listed (map kept_json (k ∷ ks))) h

  pub read_name_lem : optional (ascii "name") nameless name_from whole ≡ some (record { full = c.full; parts = c.parts })
  read_name_lem = rw look-name (name_back c.full c.parts g.parts)

  pub read-maps : each (map_from whole) maps ≡ some c.maps
  read-maps = maps-back maps c.maps whole all-rows g.maps names-differ look-map
