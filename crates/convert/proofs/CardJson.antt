-- A proper card is read back from its JSON.
use mathlib.Core.Path.{◌≡◌, refl, ap, ◌∙◌}
use mathlib.Core.Bool.{Bool, true, false, ◌||◌, not}
use mathlib.Core.List.{List, [], ◌∷◌, ◌++◌, map, append-nil}
use mathlib.Core.Option.{some}
use Rattle.text.specs.Choice.{is_some}
use Rattle.text.specs.Bytes.{Bytes, ascii, any, all, empty, same, among, keep}
use Rattle.text.proofs.Lists.{all_head, all_tail, all_both, keep_append}
use Rattle.json_text.specs.Tree.{Json, jstr, Member, member, name_of, object, array}
use Rattle.json_text.proofs.Listed.{members-listed}
use Rattle.convert.specs.Table.{Map, maps, reserved}
use Rattle.convert.specs.Model.{Entry, Card, has_parts}
use Rattle.convert.specs.Value.{filled}
use Rattle.convert.specs.FromJson.{is_text, standing, other_members, card_from_members, card_from_json}
use Rattle.convert.specs.ToJson.{where', name_json, entry_json, maps_json, kept_json, members_json}
use Rattle.convert.proofs.Proper.{GoodMembers, ProperCard}
use Rattle.convert.proofs.MapsJson.{member_names}
use Rattle.convert.proofs.CardParts.{kind_part, name_part, maps_part, kept_part, later, whole, whole-members, read-type, read-kind, read_kept, read_name_lem, read-maps}

-- ---- the other members

abbrev is_other : Member → Bool
is_other m = not (among (name_of m) reserved)

where-reserved : (b : Bool) (n : Bytes) (j : Json) → among n reserved ≡ true → keep is_other (where' b (member n j)) ≡ []
unfolding keep
where-reserved true n j h = rw h
where-reserved false n j h = refl

maps-reserved : (ms : List Map) (ess : List (List Entry)) → all (λ n. among n reserved) (member_names ms) ≡ true → keep is_other (maps_json ms ess) ≡ []
unfolding maps_json keep
maps-reserved [] ess h = refl
maps-reserved (m ∷ ms) [] h = refl
maps-reserved (m ∷ ms) (es ∷ ess) h =
    keep_append is_other (where' (not (empty es)) (member m.member (object (map (entry_json m) es)))) (maps_json ms ess)
    ∙ rw (where-reserved (not (empty es)) m.member (object (map (entry_json m) es)) (all_head (λ n. among n reserved) m.member (member_names ms) h), maps-reserved ms ess (all_tail (λ n. among n reserved) m.member (member_names ms) h))

table-reserved : all (λ n. among n reserved) (member_names maps) ≡ true
unfolding all among any same
table-reserved = refl

members_kept : (ms : List Member) → GoodMembers ms → keep is_other ms ≡ ms
unfolding keep
members_kept [] g = refl
members_kept (member n j ∷ ms) g = rw (g.1, members_kept ms g.3)

-- ---- no empty name

abbrev is_named : Member → Bool
is_named m = filled (name_of m)

where-named : (b : Bool) (n : Bytes) (j : Json) → filled n ≡ true → all is_named (where' b (member n j)) ≡ true
unfolding all
where-named true n j h = rw h
where-named false n j h = refl

maps-named : (ms : List Map) (ess : List (List Entry)) → all filled (member_names ms) ≡ true → all is_named (maps_json ms ess) ≡ true
unfolding maps_json all
maps-named [] ess h = refl
maps-named (m ∷ ms) [] h = refl
maps-named (m ∷ ms) (es ∷ ess) h =
    all_both is_named (where' (not (empty es)) (member m.member (object (map (entry_json m) es)))) (maps_json ms ess)
    (where-named (not (empty es)) m.member (object (map (entry_json m) es)) (all_head filled m.member (member_names ms) h)) (maps-named ms ess (all_tail filled m.member (member_names ms) h))

table-named : all filled (member_names maps) ≡ true
unfolding all
table-named = refl

members-named : (ms : List Member) → GoodMembers ms → all is_named ms ≡ true
unfolding all
members-named [] g = refl
members-named (member n j ∷ ms) g = rw (g.0, members-named ms g.3)

-- ---- the card

module _ (c : Card) (g : ProperCard c) where
  other-later : keep is_other (later c g) ≡ c.members
  unfolding among any same
  other-later =
      rw (
        keep_append is_other (kind_part c g ++ name_part c g ++ maps_part c g ++ c.members) (kept_part c g),
        keep_append is_other (kind_part c g ++ name_part c g ++ maps_part c g) c.members,
        keep_append is_other (kind_part c g ++ name_part c g) (maps_part c g),
        keep_append is_other (kind_part c g) (name_part c g),
        where-reserved (filled c.kind) (ascii "kind") (jstr c.kind) refl,
        where-reserved (is_some c.full || has_parts c.parts) (ascii "name") (name_json c.full c.parts) refl,
        maps-reserved maps c.maps table-reserved,
        members_kept c.members g.members,
        where-reserved (not (empty c.kept)) (ascii "vCardProps") (array (map kept_json c.kept)) refl,
        append-nil c.members,
      )

  other-members : other_members (whole c g) ≡ c.members
  unfolding keep among any same
  other-members = other-later

  all_named : all is_named (whole c g) ≡ true
  unfolding all
  all_named =
      all_both is_named (kind_part c g ++ name_part c g ++ maps_part c g ++ c.members) (kept_part c g)
      (all_both is_named (kind_part c g ++ name_part c g ++ maps_part c g) c.members
      (all_both is_named (kind_part c g ++ name_part c g) (maps_part c g)
      (all_both is_named (kind_part c g) (name_part c g) (where-named (filled c.kind) (ascii "kind") (jstr c.kind) refl) (where-named (is_some c.full || has_parts c.parts) (ascii "name") (name_json c.full c.parts) refl))
      (maps-named maps c.maps table-named)) (members-named c.members g.members))
      (where-named (not (empty c.kept)) (ascii "vCardProps") (array (map kept_json c.kept)) refl)

  card-stands : standing c ≡ some c
  unfolding standing
  card-stands = rw g.stands

  texts-same : (is_text (ascii "Card") (jstr (ascii "Card")) ≡ true) × (is_text (ascii "1.0") (jstr (ascii "1.0")) ≡ true)
  unfolding same
  texts-same = (refl, refl)

  pub card-members : card_from_members (members_json c) ≡ some c
  unfolding card_from_members
  card-members =
      ap card_from_members (whole-members c g)
      ∙ rw ((read-type c g).0, (read-type c g).1, (read-type c g).2, texts-same.0, texts-same.1, all_named, g.uid, read-kind c g, read_name_lem c g, read-maps c g, read_kept c g, other-members) card-stands

  -- the model's JSON tree gives the model back
  pub card-json : card_from_json (object (members_json c)) ≡ some c
  unfolding card_from_json
  card-json = rw (members-listed (members_json c)) card-members
