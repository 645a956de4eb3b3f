-- The normal form of a JSON card, from 01's section 'Normal forms' alone: a tree's members in the stated order, and what goes, gone.
-- It goes from tree to tree and knows nothing of vCard; that the way home gives it is a theorem.
use Rattle.std.specs.Prelude.{Bool, true, false, ◌&&◌, not, List, [], ◌∷◌, ◌++◌, map, take, drop}
use Rattle.text.specs.Choice.{pick, with-some}
use Rattle.text.specs.Bytes.{Bytes, ascii, empty, same, among, flat, keep}
use Rattle.json_text.specs.Tree.{Json, jnull, jtrue, jfalse, jnum, jstr, jarr, jobj, Member, member, name_of, value_of, field, object, array, as_string, as_array, as_object, elems_of}
use Rattle.json_text.specs.Compact.{compact}
use Rattle.json_text.specs.Read.{Reading, tree, refused, reading}
use Rattle.json_text.specs.Lookup.{depth}
use Rattle.convert.specs.Table.{Map, maps, TypeName, type_names, json_type, component_kinds, reserved}

-- ---- pieces

abbrev pub fields_of : Json → List Member
fields_of j = with-some (as_object j) (λ ms. ms) []

abbrev pub items_of : Json → List Json
items_of j = with-some (as_array j) (λ js. js) []

abbrev pub is_empty_text : Json → Bool
is_empty_text j = with-some (as_string j) empty false

-- a member of that name as it is, if it is there
abbrev pub as_is : Bytes → List Member → List Member
as_is n ms = with-some (field n ms) (λ j. member n j ∷ []) []

-- a member whose value is rebuilt from a list of things, gone where the list is empty
abbrev pub unless_gone : {A : Type 0} → Bytes → (List A → Json) → List A → List Member
unless_gone n f [] = []
unless_gone n f (x ∷ xs) = member n (f (x ∷ xs)) ∷ []

-- ---- name: components stably by kind, empty values gone, isOrdered gone; gone where nothing is left

unfoldable pub is_component : Bytes → Json → Bool
is_component k j =
    with-some (field (ascii "kind") (fields_of j)) (λ v. with-some (as_string v) (same k) false) false
    && not (with-some (field (ascii "value") (fields_of j)) is_empty_text true)

abbrev pub component_tree : Json → Json
component_tree j = object (as_is (ascii "kind") (fields_of j) ++ as_is (ascii "value") (fields_of j))

unfoldable pub components_form : List Json → List Json
components_form js = flat (map (λ k. map component_tree (keep (is_component k) js)) component_kinds)

unfoldable pub name_form : Json → List Member
name_form j =
    as_is (ascii "full") (fields_of j)
    ++ unless_gone (ascii "components") array (components_form (with-some (field (ascii "components") (fields_of j)) items_of []))

-- ---- entries: kind, the table's members, contexts, features (both alphabetical), pref

-- contexts or features, in the table's order
unfoldable pub flags_form : Bytes → List TypeName → List Member → List Member
flags_form n ts ms =
    unless_gone n object (flat (map (λ t. as_is (json_type t) (with-some (field n ms) fields_of [])) ts))

abbrev pub kind_form : Map → List Member → List Member
kind_form m ms = pick (empty m.kinds) [] (member (ascii "kind") (with-some (field (ascii "kind") ms) (λ j. j) (jstr (ascii "title"))) ∷ [])

abbrev pub is_organization : Map → Bool
is_organization m = same m.member (ascii "organizations")

unfoldable pub is_unit : Json → Bool
is_unit j = not (with-some (field (ascii "name") (fields_of j)) is_empty_text true)

-- an organisation's name goes where it is empty, and so do its empty units
unfoldable pub content_form : Map → List Member → List Member
content_form m ms =
    pick (is_organization m)
    (keep (λ x. not (is_empty_text (value_of x))) (as_is (ascii "name") ms)
    ++ unless_gone (ascii "units") array (keep is_unit (with-some (field (ascii "units") ms) items_of [])))
    (as_is m.content ms)

unfoldable pub entry_tree : Map → Member → Member
entry_tree m (member k j) =
    member k (object (kind_form m (fields_of j) ++ content_form m (fields_of j) ++ flags_form (ascii "contexts") (take 2 type_names) (fields_of j)
    ++ flags_form (ascii "features") (drop 2 type_names) (fields_of j) ++ as_is (ascii "pref") (fields_of j)))

unfoldable pub map_tree : List Member → Map → List Member
map_tree ms m = unless_gone m.member object (map (entry_tree m) (with-some (field m.member ms) fields_of []))

-- ---- vCardProps: group first, one-value arrays as strings

abbrev pub one_as_string : Json → Json
one_as_string jnull = jnull
one_as_string jtrue = jtrue
one_as_string jfalse = jfalse
one_as_string (jnum x) = jnum x
one_as_string (jstr s) = jstr s
one_as_string (jarr es) = unwrapped (elems_of es)
  where
    unwrapped : List Json → Json
    unwrapped [] = array []
    unwrapped (j ∷ []) = j
    unwrapped (j ∷ (k ∷ ks)) = array (j ∷ k ∷ ks)
one_as_string (jobj ms) = jobj ms

abbrev pub param_form : Member → Member
param_form (member n j) = member n (one_as_string j)

abbrev pub is_group_member : Member → Bool
is_group_member m = same (name_of m) (ascii "group")

unfoldable pub params_form : List Member → List Member
params_form ms = map param_form (keep is_group_member ms ++ keep (λ m. not (is_group_member m)) ms)

abbrev pub kept_tree : List Json → List Json
kept_tree [] = []
kept_tree (n ∷ []) = n ∷ []
kept_tree (n ∷ (ps ∷ js)) = n ∷ object (params_form (fields_of ps)) ∷ js

-- ---- the whole

unfoldable pub members_form : List Member → List Member
members_form ms =
    as_is (ascii "@type") ms ++ as_is (ascii "version") ms ++ as_is (ascii "uid") ms ++ as_is (ascii "kind") ms
    ++ unless_gone (ascii "name") object (with-some (field (ascii "name") ms) name_form [])
    ++ flat (map (map_tree ms) maps)
    ++ keep (λ m. not (among (name_of m) reserved)) ms
    ++ unless_gone (ascii "vCardProps") array (map (λ j. array (kept_tree (items_of j))) (with-some (field (ascii "vCardProps") ms) items_of []))

unfoldable pub normal_tree : Json → Json
normal_tree j = object (members_form (fields_of j))

abbrev pub compact_form : Reading → Bytes
compact_form (tree j) = compact (normal_tree j)
compact_form (refused p) = []

-- the normal form of an accepted JSON card
unfoldable pub normal_json : Bytes → Bytes
normal_json s = compact_form (reading depth s)
