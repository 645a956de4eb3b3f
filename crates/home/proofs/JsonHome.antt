-- A proper card comes back from its JSON: the tree is sound, so its compact text is read as it, and it gives the card.
use mathlib.Core.Path.{◌≡◌, refl, sym, ap, subst, ◌∙◌}
use mathlib.Core.Bool.{Bool, true, false, ◌&&◌, ◌||◌, not}
use mathlib.Core.List.{List, [], ◌∷◌, ◌++◌, map, map-append}
use mathlib.Core.Option.{some}
use Rattle.text.specs.Choice.{is_some}
use Rattle.text.specs.Bytes.{Bytes, ascii, any, all, empty, same, among, distinct}
use Rattle.text.specs.Utf8.{utf8}
use Rattle.text.proofs.Opened.{text-opened}
use Rattle.text.proofs.Cases.{by_bool, and_left, and_right, not-true, not-both}
use Rattle.text.proofs.Same.{same_true}
use Rattle.text.proofs.Lists.{all-imply, all_both}
use Rattle.json_text.specs.Tree.{jstr, Member, member, name_of, object, array}
use Rattle.json_text.specs.Read.{tree, reading}
use Rattle.json_text.proofs.Sound.{Sound}
use Rattle.json_text.proofs.Trees.{reading-compact}
use Rattle.convert.specs.Table.{Map, maps, reserved}
use Rattle.convert.specs.Model.{Card, has_parts}
use Rattle.convert.specs.Value.{filled}
use Rattle.convert.specs.FromJson.{seen_in, card_from_json}
use Rattle.convert.specs.ToJson.{where', maps_json, name_json, kept_json, members_json, print_json}
use Rattle.convert.proofs.CardJson.{card-json}
use Rattle.home.proofs.Proper.{ProperMembers, ProperCard}
use Rattle.home.proofs.Alls.{All, all-joined, all-test, test-all}
use Rattle.home.proofs.Words.{group-utf8}
use Rattle.home.proofs.SoundLists.{SoundMember}
use Rattle.home.proofs.Sublists.{Sub, taken_in, sub-distinct, sub-among, distinct_append}
use Rattle.home.proofs.SoundCard.{object_of, array_of}
use Rattle.home.proofs.SoundEntries.{sub-where, all-where, sub-names, sub-every, rows}
use Rattle.home.proofs.SoundTree.{maps-sound, maps-sub}
use Rattle.home.proofs.SoundWhole.{name-sound, all-kept-sound}
use Rattle.home.proofs.Bridge.{readable}

-- ---- names of members that no table has, and those of the table

abbrev Other : Bytes → Type 0
Other n = among n reserved ≡ false

other-names : (ms : List Member) → ProperMembers ms → All Other (map name_of ms)
other-names [] g = tt
other-names (m ∷ ms) g =
    (not-true (among (name_of m) reserved) (and_right (filled (name_of m)) _ (and_left (filled (name_of m) && not (among (name_of m) reserved)) _ g.0.name)), other-names ms g.1)

-- a name of the table is none of the others
absent : (x : Bytes) (ns : List Bytes) → among x reserved ≡ true → All Other ns → among x ns ≡ false
unfolding among any
absent x [] h g = refl
absent x (n ∷ ns) h g =
    by_bool (same x n) (λ e. not-both h (ap (λ (y : Bytes). among y reserved) (same_true x n e) ∙ g.0)) (λ e. rw e (absent x ns h g.1))

-- none of the others is vCardProps
props-reserved : among (ascii "vCardProps") reserved ≡ true
unfolding text-opened
props-reserved = refl

not-props : (n : Bytes) → Other n → same n (ascii "vCardProps") ≡ false
not-props n h = by_bool (same n (ascii "vCardProps")) (λ e. not-both (ap (λ (y : Bytes). among y reserved) (same_true n (ascii "vCardProps") e) ∙ props-reserved) h) (λ e. e)

one-other : (x n : Bytes) → same x n ≡ false → among x (n ∷ []) ≡ false
unfolding among any
one-other x n h = rw h

-- ---- the members before those of JSPROP lines

abbrev front_names : List Bytes
front_names =
    ascii "@type" ∷ ascii "version" ∷ ascii "uid" ∷ ascii "kind" ∷ ascii "name" ∷ map (λ (m : Map). m.member) maps

front-facts : (distinct front_names ≡ true) × (all (λ x. among x reserved) front_names ≡ true) × (all (λ x. not (same x (ascii "vCardProps"))) front_names ≡ true)
unfolding text-opened
front-facts = (refl, refl, refl)

alone : (n : Bytes) → distinct (n ∷ []) ≡ true
unfolding distinct among any
alone n = refl

words : (utf8 (ascii "@type") ≡ true) × (utf8 (ascii "version") ≡ true) × (utf8 (ascii "uid") ≡ true) × (utf8 (ascii "kind") ≡ true) × (utf8 (ascii "name") ≡ true) × (utf8 (ascii "Card") ≡ true) × (utf8 (ascii "1.0") ≡ true)
unfolding text-opened
words = (refl, refl, refl, refl, refl, refl, refl)

props-utf8 : utf8 (ascii "vCardProps") ≡ true
unfolding text-opened
props-utf8 = refl

module _ (c : Card) (g : ProperCard c) where
  abbrev kind_member : Member
  kind_member = member (ascii "kind") (jstr c.kind)

  abbrev name_member : Member
  name_member = member (ascii "name") (name_json c.full c.parts)

  abbrev named : Bool
  named = is_some c.full || has_parts c.parts

  abbrev middle : List Member
  middle = where' (filled c.kind) kind_member ++ where' named name_member ++ maps_json maps c.maps

  abbrev front : List Member
  front = member (ascii "@type") (jstr (ascii "Card")) ∷ member (ascii "version") (jstr (ascii "1.0")) ∷ member (ascii "uid") (jstr c.uid) ∷ middle

  abbrev kept_member : Member
  kept_member = member (ascii "vCardProps") (array (map kept_json c.kept))

  abbrev last : List Member
  last = where' (not (empty c.kept)) kept_member

  whole : members_json c ≡ front ++ c.members ++ last
  unfolding members_json
  whole = refl

  front-sub : Sub (map name_of front) front_names
  front-sub =
      taken_in (ascii "@type") (taken_in (ascii "version") (taken_in (ascii "uid")
      (sub-names (where' (filled c.kind) kind_member ++ where' named name_member) (maps_json maps c.maps)
      (sub-names (where' (filled c.kind) kind_member) (where' named name_member) (sub-where (filled c.kind) kind_member) (sub-where named name_member)) (maps-sub maps c.maps))))

  last-sub : Sub (map name_of last) (ascii "vCardProps" ∷ [])
  last-sub = sub-where (not (empty c.kept)) kept_member

  -- ---- all names differ

  others : All Other (map name_of c.members)
  others = other-names c.members g.members

  front-apart : all (λ x. not (among x (map name_of c.members))) (map name_of front) ≡ true
  front-apart =
      all-test (λ x. not (among x (map name_of c.members))) (map name_of front)
      (sub-every (λ x. not (among x (map name_of c.members)) ≡ true) front-sub
      (test-all (λ x. not (among x (map name_of c.members))) front_names
      (all-imply (λ x. among x reserved) (λ x. not (among x (map name_of c.members))) (λ x h. ap not (absent x (map name_of c.members) h others)) front_names front-facts.1)))

  away : (x : Bytes) → same x (ascii "vCardProps") ≡ false → not (among x (map name_of last)) ≡ true
  away x h = ap not (sub-among x last-sub (one-other x (ascii "vCardProps") h))

  last_apart : all (λ x. not (among x (map name_of last))) (map name_of front ++ map name_of c.members) ≡ true
  last_apart =
      all_both (λ x. not (among x (map name_of last))) (map name_of front) (map name_of c.members)
      (all-test (λ x. not (among x (map name_of last))) (map name_of front)
      (sub-every (λ x. not (among x (map name_of last)) ≡ true) front-sub
      (test-all (λ x. not (among x (map name_of last))) front_names
      (all-imply (λ x. not (same x (ascii "vCardProps"))) (λ x. not (among x (map name_of last))) (λ x h. away x (not-true (same x (ascii "vCardProps")) h)) front_names front-facts.2))))
      (all-test (λ x. not (among x (map name_of last))) (map name_of c.members) (others-away (map name_of c.members) others))
    where
      others-away : (ns : List Bytes) → All Other ns → All (λ x. not (among x (map name_of last)) ≡ true) ns
      others-away [] h = tt
      others-away (n ∷ ns) h = (away n (not-props n h.0), others-away ns h.1)

  members-last : map name_of (front ++ c.members ++ last) ≡ map name_of front ++ map name_of c.members ++ map name_of last
  members-last = map-append name_of (front ++ c.members) last ∙ ap (λ (x : List Bytes). x ++ map name_of last) (map-append name_of front c.members)

  last-distinct : distinct (map name_of last) ≡ true
  last-distinct = sub-distinct last-sub (alone (ascii "vCardProps"))

  all-differ : distinct (map name_of (members_json c)) ≡ true
  all-differ =
      ap (λ (x : List Member). distinct (map name_of x)) whole ∙ ap distinct members-last
      ∙ distinct_append (map name_of front ++ map name_of c.members) (map name_of last)
      (distinct_append (map name_of front) (map name_of c.members) (sub-distinct front-sub front-facts.0) g.names front-apart) last-distinct last_apart

  -- ---- each member is sound

  abbrev S : Member → Type 0
  S = SoundMember 15

  front-sound : All S front
  front-sound = (
    (words.0, words.5),
    (
      (words.1, words.6),
      (
        (words.2, and_right (filled c.uid) _ g.uid),
        all-joined S (where' (filled c.kind) kind_member ++ where' named name_member) (maps_json maps c.maps)
            (all-joined S (where' (filled c.kind) kind_member) (where' named name_member)
            (all-where S (filled c.kind) kind_member (λ b. (words.3, group-utf8 c.kind g.kind)))
            (all-where S named name_member (λ b. (words.4, name-sound 12 c.full c.parts g.full g.parts))))
            (maps-sound 11 maps rows c.maps g.entries),
      ),
    ),
  )

  members-sound : (ms : List Member) → ProperMembers ms → All S ms
  members-sound [] h = tt
  members-sound (m ∷ ms) h = ((and_right (filled (name_of m) && not (among (name_of m) reserved)) (utf8 (name_of m)) h.0.name, h.0.value), members-sound ms h.1)

  last-sound : All S last
  last-sound =
      all-where S (not (empty c.kept)) kept_member
      (λ b. (props-utf8, array_of 14 (map kept_json c.kept) (all-kept-sound 11 (seen_in c) c.kept g.kept g.stand)))

  pub card-sound : Sound 16 (object (members_json c))
  card-sound =
      object_of 15 (members_json c) all-differ
      (subst (All S) (sym whole) (all-joined S (front ++ c.members) last (all-joined S front c.members front-sound (members-sound c.members g.members)) last-sound))

  -- ---- the card comes back

  pub json-read : reading 16 (print_json c) ≡ tree (object (members_json c))
  unfolding print_json
  json-read = reading-compact 16 (object (members_json c)) card-sound

  pub json-home : card_from_json (object (members_json c)) ≡ some c
  json-home = card-json c (readable c g)
