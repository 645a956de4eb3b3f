-- The model to JSON, in the stated order: @type, version, uid, kind, name, the table's maps, JSPROP members, vCardProps.
use Rattle.std.specs.Prelude.{Bool, true, false, not, ◌||◌, List, [], ◌∷◌, ◌++◌, map, ℕ, get_or, eqb}
use Rattle.std.proofs.Math.Option.{Option, none, some}
use Rattle.text.specs.Choice.{is_some}
use Rattle.text.specs.Bytes.{Bytes, ascii, empty, any, flat, keep}
use Rattle.json_text.specs.Tree.{Json, jstr, jnum, jtrue, Member, member, object, array}
use Rattle.json_text.specs.Compact.{compact}
use Rattle.line.specs.Grammar.{Param, param}
use Rattle.convert.specs.Table.{Form, text, single, uri, phone, organization, Map, maps, type_names, json_type, feature-type, context_codes, feature_codes, component_kinds}
use Rattle.convert.specs.Model.{Entry, Kept, Card, has_parts}
use Rattle.convert.specs.Value.{filled, head_or}

-- a member that is there or not
abbrev pub where' : Bool → Member → List Member
where' true m = m ∷ []
where' false m = []

abbrev pub where_some : {A : Type 0} → Option A → (A → Member) → List Member
where_some (some a) f = f a ∷ []
where_some none f = []

-- ---- name

unfoldable pub components_of : List Bytes → List (List Bytes) → List Json
components_of [] ps = []
components_of (k ∷ ks) [] = []
components_of (k ∷ ks) (vs ∷ ps) = map (λ v. object (member (ascii "kind") (jstr k) ∷ member (ascii "value") (jstr v) ∷ [])) vs ++ components_of ks ps

unfoldable pub name_json : Option Bytes → List (List Bytes) → Json
name_json full ps =
    object (where_some full (λ v. member (ascii "full") (jstr v))
    ++ where' (has_parts ps) (member (ascii "components") (array (components_of component_kinds ps))))

-- ---- entries of the maps: kind, the table's members, contexts, features, pref

-- the members that hold the entry's strings
unfoldable pub content_json : Form → Bytes → List Bytes → List Member
content_json text n vs = member n (jstr (head_or [] vs)) ∷ []
content_json single n vs = member n (jstr (head_or [] vs)) ∷ []
content_json uri n vs = member n (jstr (head_or [] vs)) ∷ []
content_json phone n vs = member n (jstr (head_or [] vs)) ∷ []
content_json organization n [] = []
content_json organization n (v ∷ vs) =
    where' (filled v) (member n (jstr v))
    ++ where' (not (empty vs)) (member (ascii "units") (array (map (λ u. object (member (ascii "name") (jstr u) ∷ [])) vs)))

-- the codes of one kind that an entry has, as an object of trues
unfoldable pub flags_json : Bytes → List ℕ → List ℕ → List Member
flags_json n kind codes =
    let cs : List ℕ = keep (λ c. any (eqb c) kind) codes in
    where' (not (empty cs)) (member n (object (map (λ c. member (json_type (get_or type_names c (feature-type [] []))) jtrue) cs)))

unfoldable pub entry_json : Map → Entry → Member
entry_json m e =
    member e.key (object (where' (not (empty m.kinds)) (member (ascii "kind") (jstr (get_or m.kinds e.which [])))
    ++ content_json m.form m.content (flat e.parts)
    ++ flags_json (ascii "contexts") context_codes e.types
    ++ flags_json (ascii "features") feature_codes e.types
    ++ where' (filled e.pref) (member (ascii "pref") (jnum e.pref))))

unfoldable pub maps_json : List Map → List (List Entry) → List Member
maps_json [] ess = []
maps_json (m ∷ ms) [] = []
maps_json (m ∷ ms) (es ∷ ess) = where' (not (empty es)) (member m.member (object (map (entry_json m) es))) ++ maps_json ms ess

-- ---- kept lines: name, parameters, type, value

abbrev pub values_json : List Bytes → Json
values_json [] = array []
values_json (v ∷ []) = jstr v
values_json (v ∷ (w ∷ ws)) = array (map jstr (v ∷ w ∷ ws))

abbrev pub param_json : Param → Member
param_json (param n vs) = member n (values_json vs)

unfoldable pub kept_json : Kept → Json
kept_json k =
    array (jstr k.name
    ∷ object (where' (filled k.group) (member (ascii "group") (jstr k.group)) ++ map param_json k.params)
    ∷ jstr k.type ∷ jstr k.value ∷ [])

-- ---- the whole

unfoldable pub members_json : Card → List Member
members_json c =
    member (ascii "@type") (jstr (ascii "Card")) ∷ member (ascii "version") (jstr (ascii "1.0")) ∷ member (ascii "uid") (jstr c.uid)
    ∷ (where' (filled c.kind) (member (ascii "kind") (jstr c.kind))
    ++ where' (is_some c.full || has_parts c.parts) (member (ascii "name") (name_json c.full c.parts))
    ++ maps_json maps c.maps
    ++ c.members
    ++ where' (not (empty c.kept)) (member (ascii "vCardProps") (array (map kept_json c.kept))))

unfoldable pub print_json : Card → Bytes
print_json c = compact (object (members_json c))
