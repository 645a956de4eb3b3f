-- The members of an entry's JSON, by name.
use mathlib.Core.Path.{◌≡◌, refl, ◌∙◌}
use mathlib.Core.Bool.{Bool, true, false, ◌||◌, not}
use mathlib.Core.List.{List, [], ◌∷◌, ◌++◌, map}
use mathlib.Core.Option.{Option, none, some}
use lib.ListN.{get_or}
use lib.Dec.{eqb, leb}
use Rattle.text.specs.Choice.{pick}
use Rattle.text.specs.Bytes.{Bytes, ascii, any, all, empty, same, among, keep, flat}
use Rattle.text.proofs.Cases.{or_left, or_right}
use Rattle.text.proofs.Same.{same_self}
use Rattle.text.proofs.Lists.{all_append}
use Rattle.json_text.specs.Tree.{Json, jstr, jnum, Member, member, name_of, object, field}
use Rattle.json_text.proofs.Listed.{either, field-none, field-append, field-here, field-later}
use Rattle.convert.specs.Table.{Form, text, single, uri, phone, organization, Map}
use Rattle.convert.specs.Model.{Entry}
use Rattle.convert.specs.Value.{filled}
use Rattle.convert.specs.FromJson.{only_members, entry_members}
use Rattle.convert.specs.ToJson.{where', content_json, flags_json, entry_json}
use Rattle.convert.proofs.Flags.{is_context, is_feature, flag_json}

-- ---- a member that is there or not

pub where-same : (n : Bytes) (b : Bool) (j : Json) → field n (where' b (member n j)) ≡ pick b (some j) none
where-same n true j = field-here n n j [] (same_self n)
where-same n false j = field-none n

pub where-other : (n m : Bytes) (b : Bool) (j : Json) → same m n ≡ false → field n (where' b (member m j)) ≡ none
where-other n m true j e = field-later n m j [] e ∙ field-none n
where-other n m false j e = field-none n

pub only-where : (ns : List Bytes) (b : Bool) (n : Bytes) (j : Json) → (b ≡ true → among n ns ≡ true) → only_members ns (where' b (member n j)) ≡ true
unfolding only_members all
only-where ns true n j h = rw (h refl)
only-where ns false n j h = refl

pub only-append : (ns : List Bytes) (ms ks : List Member) → only_members ns ms ≡ true → only_members ns ks ≡ true → only_members ns (ms ++ ks) ≡ true
unfolding only_members
only-append ns ms ks p q = rw (all_append (λ m. among (name_of m) ns) ms ks, p, q)

pub right-none : (x : Option Json) → either x none ≡ x
right-none (some j) = refl
right-none none = refl

-- the content's members are named as the row says, or units
content-other : (f : Form) (c n : Bytes) (vs : List Bytes) → same c n ≡ false → same (ascii "units") n ≡ false → field n (content_json f c vs) ≡ none
unfolding content_json
content-other text c n vs p q = field-later n c _ [] p ∙ field-none n
content-other single c n vs p q = field-later n c _ [] p ∙ field-none n
content-other uri c n vs p q = field-later n c _ [] p ∙ field-none n
content-other phone c n vs p q = field-later n c _ [] p ∙ field-none n
content-other organization c n [] p q = field-none n
content-other organization c n (v ∷ vs) p q =
    field-append n (where' (filled v) (member c (jstr v))) _ ∙ rw (where-other n c (filled v) (jstr v) p, where-other n (ascii "units") _ _ q)

-- ---- rows of the table

abbrev pub is_organization : Form → Bool
is_organization text = false
is_organization single = false
is_organization uri = false
is_organization phone = false
is_organization organization = true

-- what the look-ups need of a row; each is a test that computes
pub record Row (m : Map) : Type 0 where
  pub content : among m.content (ascii "kind" ∷ ascii "units" ∷ ascii "contexts" ∷ ascii "features" ∷ ascii "pref" ∷ []) ≡ false
  pub name : not (is_organization m.form) || same m.content (ascii "name") ≡ true
  pub content-known : among m.content (entry_members m) ≡ true
  pub kind-known : empty m.kinds || among (ascii "kind") (entry_members m) ≡ true
  pub units-known : not (is_organization m.form) || among (ascii "units") (entry_members m) ≡ true
  pub contexts-known : eqb m.types 0 || among (ascii "contexts") (entry_members m) ≡ true
  pub pref-known : not (among (ascii "pref") m.parameters) || among (ascii "pref") (entry_members m) ≡ true
  pub features-known : leb m.types 2 || among (ascii "features") (entry_members m) ≡ true

-- ---- the parts of an entry

module _ (m : Map) (e : Entry) where
  abbrev pub kind_part : List Member
  kind_part = where' (not (empty m.kinds)) (member (ascii "kind") (jstr (get_or m.kinds e.which [])))

  abbrev pub content_part : List Member
  content_part = content_json m.form m.content (flat e.parts)

  abbrev pub contexts_part : List Member
  contexts_part = where' (not (empty (keep is_context e.types))) (member (ascii "contexts") (object (map flag_json (keep is_context e.types))))

  abbrev pub features_part : List Member
  features_part = where' (not (empty (keep is_feature e.types))) (member (ascii "features") (object (map flag_json (keep is_feature e.types))))

  abbrev pub pref_part : List Member
  pref_part = where' (filled e.pref) (member (ascii "pref") (jnum e.pref))

  abbrev pub whole : List Member
  whole = kind_part ++ content_part ++ contexts_part ++ features_part ++ pref_part

  pub whole-json : entry_json m e ≡ member e.key (object whole)
  unfolding entry_json flags_json
  whole-json = refl

  look : (n : Bytes) → field n whole ≡ either (either (either (either (field n kind_part) (field n content_part)) (field n contexts_part)) (field n features_part)) (field n pref_part)
  look n =
      rw (field-append n (kind_part ++ content_part ++ contexts_part ++ features_part) pref_part, field-append n (kind_part ++ content_part ++ contexts_part) features_part, field-append n (kind_part ++ content_part) contexts_part, field-append n kind_part content_part)

  -- a name that only the content has
  pub look-content : (n : Bytes) → same (ascii "kind") n ≡ false → same (ascii "contexts") n ≡ false → same (ascii "features") n ≡ false → same (ascii "pref") n ≡ false → field n whole ≡ field n content_part
  look-content n a b c d =
      look n ∙ rw (where-other n (ascii "kind") _ _ a, where-other n (ascii "contexts") _ _ b, where-other n (ascii "features") _ _ c, where-other n (ascii "pref") _ _ d) (simp right-none)

  module _ (r : Row m) where
    abbrev pub Apart : Bytes → Type 0
    Apart n = same m.content n ≡ false

    pub content-apart : Apart (ascii "kind") × Apart (ascii "units") × Apart (ascii "contexts") × Apart (ascii "features") × Apart (ascii "pref")
    unfolding among any
    content-apart =
        let a = or_right (same m.content (ascii "kind")) _ r.content in
        let b = or_right (same m.content (ascii "units")) _ a in
        let c = or_right (same m.content (ascii "contexts")) _ b in
        let d = or_right (same m.content (ascii "features")) _ c in
        (or_left _ _ r.content, or_left _ _ a, or_left _ _ b, or_left _ _ c, or_left _ _ d)

    pub look-kind : field (ascii "kind") whole ≡ pick (not (empty m.kinds)) (some (jstr (get_or m.kinds e.which []))) none
    unfolding same
    look-kind =
        look (ascii "kind")
        ∙ rw (
          where-same (ascii "kind") (not (empty m.kinds)) (jstr (get_or m.kinds e.which [])),
          content-other m.form m.content (ascii "kind") (flat e.parts) content-apart.0 refl,
          where-other (ascii "kind") (ascii "contexts") (not (empty (keep is_context e.types))) (object (map flag_json (keep is_context e.types))) refl,
          where-other (ascii "kind") (ascii "features") (not (empty (keep is_feature e.types))) (object (map flag_json (keep is_feature e.types))) refl,
          where-other (ascii "kind") (ascii "pref") (filled e.pref) (jnum e.pref) refl,
        ) (simp right-none)

    pub look-contexts : field (ascii "contexts") whole ≡ pick (not (empty (keep is_context e.types))) (some (object (map flag_json (keep is_context e.types)))) none
    unfolding same
    look-contexts =
        look (ascii "contexts")
        ∙ rw (
          where-other (ascii "contexts") (ascii "kind") (not (empty m.kinds)) (jstr (get_or m.kinds e.which [])) refl,
          content-other m.form m.content (ascii "contexts") (flat e.parts) content-apart.2 refl,
          where-same (ascii "contexts") (not (empty (keep is_context e.types))) (object (map flag_json (keep is_context e.types))),
          where-other (ascii "contexts") (ascii "features") (not (empty (keep is_feature e.types))) (object (map flag_json (keep is_feature e.types))) refl,
          where-other (ascii "contexts") (ascii "pref") (filled e.pref) (jnum e.pref) refl,
        ) (simp right-none)

    pub look-features : field (ascii "features") whole ≡ pick (not (empty (keep is_feature e.types))) (some (object (map flag_json (keep is_feature e.types)))) none
    unfolding same
    look-features =
        look (ascii "features")
        ∙ rw (
          where-other (ascii "features") (ascii "kind") (not (empty m.kinds)) (jstr (get_or m.kinds e.which [])) refl,
          content-other m.form m.content (ascii "features") (flat e.parts) content-apart.3 refl,
          where-other (ascii "features") (ascii "contexts") (not (empty (keep is_context e.types))) (object (map flag_json (keep is_context e.types))) refl,
          where-same (ascii "features") (not (empty (keep is_feature e.types))) (object (map flag_json (keep is_feature e.types))),
          where-other (ascii "features") (ascii "pref") (filled e.pref) (jnum e.pref) refl,
        ) (simp right-none)

    pub look-pref : field (ascii "pref") whole ≡ pick (filled e.pref) (some (jnum e.pref)) none
    unfolding same
    look-pref =
        look (ascii "pref")
        ∙ rw (
          where-other (ascii "pref") (ascii "kind") (not (empty m.kinds)) (jstr (get_or m.kinds e.which [])) refl,
          content-other m.form m.content (ascii "pref") (flat e.parts) content-apart.4 refl,
          where-other (ascii "pref") (ascii "contexts") (not (empty (keep is_context e.types))) (object (map flag_json (keep is_context e.types))) refl,
          where-other (ascii "pref") (ascii "features") (not (empty (keep is_feature e.types))) (object (map flag_json (keep is_feature e.types))) refl,
          where-same (ascii "pref") (filled e.pref) (jnum e.pref),
        )
