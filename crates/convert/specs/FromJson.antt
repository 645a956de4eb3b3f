-- JSON to the model; none where JSON is no card of 01 (refusal 12).
use Rattle.std.specs.Prelude.{Bool, true, false, ◌&&◌, ◌||◌, not, List, [], ◌∷◌, ◌++◌, map, ℕ, suc, ◌+◌, take, drop, eqb}
use Rattle.std.proofs.Math.Option
use Rattle.std.proofs.Math.Option.{Option, none, some}
use Rattle.text.specs.Choice.{pick, with-some, is_some, both, chain, provided}
use Rattle.text.specs.Bytes.{Bytes, ascii, empty, any, all, same, among, flat, keep, each}
use Rattle.json_text.specs.Tree.{Json, jnull, jtrue, jfalse, jnum, jstr, jarr, jobj, Member, member, name_of, field, as_string, as_number, as_array, as_object, elems_of}
use Rattle.line.specs.Class.{is_lower_name}
use Rattle.line.specs.Grammar.{Param, param, param_name, Line, fits}
use Rattle.convert.specs.Table.{Form, text, single, uri, phone, organization, Map, maps, TypeName, type_names, json_type, in_order, Part, name_row, kinds_of, position, reserved}
use Rattle.convert.specs.Model.{Entry, Kept, Card, has_parts, no_parts, singly}
use Rattle.convert.specs.Value.{filled, is_key_text, is_pref}
use Rattle.convert.specs.Classify.{Class, as-version, as-uid, as-kind, as_dropped, as-full, as_parts, as-entry, as_member, as-kept, Id, id, Seen, classify}

-- ---- members that must be there, may be there, may not be there

-- no member but these
unfoldable pub only_members : List Bytes → List Member → Bool
only_members ns ms = all (λ m. among (name_of m) ns) ms

-- a member that must be there
abbrev pub required : {A : Type 0} → Bytes → (Json → Option A) → List Member → Option A
required n f ms = chain (field n ms) f

-- one that may be absent: then it stands for d
abbrev pub optional : {A : Type 0} → Bytes → A → (Json → Option A) → List Member → Option A
optional n d f ms = with-some (field n ms) f (some d)

abbrev pub is_lower_word : Bytes → Bool
is_lower_word s = filled s && all is_lower_name s

abbrev pub is_text : Bytes → Json → Bool
is_text s j = with-some (as_string j) (same s) false

-- ---- name

-- a component: the place of its kind, and its value
pub data Component : Type 0 where
  component : ℕ → Bytes → Component

-- none where its kind is none of the row's
unfoldable pub component_in : List Part → Json → Option Component
component_in row j =
    chain (as_object j) λ ms.
    provided (only_members (ascii "kind" ∷ ascii "value" ∷ []) ms)
    (both component (required (ascii "kind") (λ k. chain (as_string k) λ s. position (same s) (kinds_of row)) ms) (required (ascii "value") as_string ms))

abbrev pub of_kind : ℕ → Component → List Bytes
of_kind i (component k v) = pick (eqb i k && filled v) (v ∷ []) []

abbrev pub component_of : Json → Option Component
component_of j = component_in name_row j

-- for each part of a row, from the i-th on, the values of its kind; empty ones gone
abbrev pub values_from : ℕ → List Part → List Component → List (List Bytes)
values_from i [] cs = []
values_from i (p ∷ row) cs = flat (map (of_kind i) cs) ∷ values_from (suc i) row cs

unfoldable pub by_kind : List Component → List (List Bytes)
by_kind cs = values_from 0 name_row cs

pub record Name : Type 0 where
  pub full : Option Bytes
  pub parts : List (List Bytes)

abbrev pub nameless : Name
nameless = record { full = none; parts = no_parts }

abbrev pub is_false : Json → Option Bool
is_false jnull = none
is_false jtrue = none
is_false jfalse = some true
is_false (jnum x) = none
is_false (jstr s) = none
is_false (jarr es) = none
is_false (jobj ms) = none

-- full or components must be there; isOrdered can only be false
unfoldable pub name_from : Json → Option Name
name_from j =
    chain (as_object j) λ ms.
    provided (only_members (ascii "full" ∷ ascii "components" ∷ ascii "isOrdered" ∷ []) ms && (is_some (field (ascii "full") ms) || is_some (field (ascii "components") ms)))
    (chain (optional (ascii "isOrdered") true is_false ms) λ ordered.
    both (λ f cs. record { full = f; parts = by_kind cs })
    (optional (ascii "full") none (λ v. Option.map some (as_string v)) ms)
    (optional (ascii "components") [] (λ v. chain (as_array v) (each component_of)) ms))

-- ---- entries of the maps

abbrev pub is_true : Json → Bool
is_true jnull = false
is_true jtrue = true
is_true jfalse = false
is_true (jnum x) = false
is_true (jstr s) = false
is_true (jarr es) = false
is_true (jobj ms) = false

-- the place of a name in a part of the table of TYPE that begins at place i
abbrev pub flag_of : ℕ → List TypeName → Member → Option ℕ
flag_of i ts (member n j) = provided (is_true j) (Option.map (λ k. i + k) (position (λ t. same n (json_type t)) ts))

-- contexts or features
unfoldable pub flags_from : ℕ → List TypeName → Json → Option (List ℕ)
flags_from i ts j = chain (as_object j) (each (flag_of i ts))

unfoldable pub unit_from : Json → Option Bytes
unit_from j = chain (as_object j) λ ms. provided (only_members (ascii "name" ∷ []) ms) (required (ascii "name") as_string ms)

-- an organisation: its name or units must be there, and something left of them
unfoldable pub organization_from : List Member → Option (List Bytes)
organization_from ms =
    provided (is_some (field (ascii "name") ms) || is_some (field (ascii "units") ms))
    (chain (optional (ascii "name") [] as_string ms) λ n.
    chain (optional (ascii "units") [] (λ v. chain (as_array v) (each unit_from)) ms) λ us.
    provided (any filled (n ∷ us)) (some (n ∷ keep filled us)))

-- the entry's strings
unfoldable pub content_from : Form → Bytes → List Member → Option (List Bytes)
content_from text n ms = Option.map (λ v. v ∷ []) (required n as_string ms)
content_from single n ms = Option.map (λ v. v ∷ []) (required n as_string ms)
content_from uri n ms = Option.map (λ v. v ∷ []) (required n as_string ms)
content_from phone n ms = Option.map (λ v. v ∷ []) (required n as_string ms)
content_from organization n ms = organization_from ms

-- the members that an entry of a map may have
unfoldable pub entry_members : Map → List Bytes
entry_members m =
    m.content
    ∷ (pick (empty m.kinds) [] (ascii "kind" ∷ [])
    ++ content_members m.form
    ++ pick (among (ascii "type") m.parameters) (ascii "contexts" ∷ []) []
    ++ pick (among (ascii "pref") m.parameters) (ascii "pref" ∷ []) []
    ++ pick (eqb m.types 9) (ascii "features" ∷ []) [])
  where
    content_members : Form → List Bytes
    content_members text = []
    content_members single = []
    content_members uri = []
    content_members phone = []
    content_members organization = ascii "units" ∷ []

unfoldable pub entry_from : Map → Member → Option Entry
entry_from m (member k j) =
    chain (provided (is_key_text k) (as_object j)) λ ms.
    provided (only_members (entry_members m) ms)
    (chain (optional (ascii "kind") 0 (λ v. chain (as_string v) λ s. position (same s) m.kinds) ms) λ w.
    chain (content_from m.form m.content ms) λ vs.
    chain (optional (ascii "contexts") [] (flags_from 0 (take 2 type_names)) ms) λ xs.
    chain (optional (ascii "features") [] (flags_from 2 (drop 2 type_names)) ms) λ fs.
    chain (optional (ascii "pref") [] (λ v. chain (as_number v) λ p. provided (is_pref p) (some p)) ms) λ p.
    some (record { key = k; which = w; parts = singly vs; types = in_order (xs ++ fs); pref = p }))

unfoldable pub map_from : List Member → Map → Option (List Entry)
map_from ms m = optional m.member [] (λ j. chain (as_object j) (each (entry_from m))) ms

-- ---- vCardProps

abbrev pub strings : Json → Option (List Bytes)
strings jnull = none
strings jtrue = none
strings jfalse = none
strings (jnum x) = none
strings (jstr s) = some (s ∷ [])
strings (jarr es) = chain (each as_string (elems_of es)) λ vs. provided (not (empty vs)) (some vs)
strings (jobj ms) = none

abbrev pub param_from : Member → Option Param
param_from (member n j) = Option.map (λ vs. param n vs) (strings j)

abbrev pub is_group : Param → Bool
is_group p = same (param_name p) (ascii "group")

-- the group: absent, or one value that is a lower-case name
abbrev pub group_from : List Param → Option Bytes
group_from [] = some []
group_from (param n [] ∷ ps) = none
group_from (param n (g ∷ []) ∷ ps) = provided (is_lower_word g) (some g)
group_from (param n (g ∷ (h ∷ hs)) ∷ ps) = none

abbrev pub kept_from_four : List Json → Option Kept
kept_from_four [] = none
kept_from_four (n ∷ []) = none
kept_from_four (n ∷ (ps ∷ [])) = none
kept_from_four (n ∷ (ps ∷ (t ∷ []))) = none
kept_from_four (n ∷ (ps ∷ (t ∷ (v ∷ [])))) =
    chain (as_string n) λ name.
    chain (chain (as_object ps) (each param_from)) λ params.
    chain (group_from (keep is_group params)) λ group.
    chain (as_string t) λ type.
    chain (as_string v) λ value.
    some (record { name = name; group = group; params = keep (λ p. not (is_group p)) params; type = type; value = value })
kept_from_four (n ∷ (ps ∷ (t ∷ (v ∷ (w ∷ ws))))) = none

unfoldable pub kept_from : Json → Option Kept
kept_from j = chain (as_array j) kept_from_four

-- the line that a kept entry is: VALUE last, absent where the type is unknown
unfoldable pub kept_as_line : Kept → Line
kept_as_line k =
    record {
      group = k.group;
      name = k.name;
      params = k.params ++ pick (same k.type (ascii "unknown")) [] (param (ascii "value") (k.type ∷ []) ∷ []);
      value = k.value;
    }

abbrev pub is_kept : Class → Bool
is_kept as-version = false
is_kept (as-uid v) = false
is_kept (as-kind v) = false
is_kept as_dropped = false
is_kept (as-full v) = false
is_kept (as_parts ps) = false
is_kept (as-entry i e) = false
is_kept (as_member n j) = false
is_kept as-kept = true

-- names that no kept line has
abbrev pub never_kept : List Bytes
never_kept = ascii "begin" ∷ ascii "end" ∷ ascii "version" ∷ ascii "uid" ∷ ascii "kind" ∷ []

-- a kept line gives this entry in its place, as far as its form goes (13 looks at its strings)
unfoldable pub kept_stands : Seen → Kept → Bool
kept_stands s k =
    is_lower_word k.name && not (among k.name never_kept) && is_lower_word k.type
    && all (λ p. is_lower_word (param_name p) && not (same (param_name p) (ascii "value"))) k.params
    && fits (kept_as_line k).params && is_kept (classify s (kept_as_line k))

-- ---- the whole

unfoldable pub ids_from : ℕ → List (List Entry) → List Id
ids_from i [] = []
ids_from i (es ∷ ess) = map (λ (e : Entry). id i e.key) es ++ ids_from (suc i) ess

-- what was seen after all converted lines
unfoldable pub seen_in : Card → Seen
seen_in c = record { full = is_some c.full; parts = has_parts c.parts; ids = ids_from 0 c.maps; members = map name_of c.members }

-- an entry among vCardProps, or 12
unfoldable pub standing : Card → Option Card
standing c = provided (all (kept_stands (seen_in c)) c.kept) (some c)

abbrev pub other_members : List Member → List Member
other_members ms = keep (λ m. not (among (name_of m) reserved)) ms

unfoldable pub card_from_members : List Member → Option Card
card_from_members ms =
    provided (with-some (field (ascii "@type") ms) (is_text (ascii "Card")) false && with-some (field (ascii "version") ms) (is_text (ascii "1.0")) false
    && all (λ m. filled (name_of m)) ms)
    (chain (required (ascii "uid") (λ v. chain (as_string v) λ u. provided (filled u) (some u)) ms) λ u.
    chain (optional (ascii "kind") [] (λ v. chain (as_string v) λ k. provided (is_lower_word k) (some k)) ms) λ k.
    chain (optional (ascii "name") nameless name_from ms) λ n.
    chain (each (map_from ms) maps) λ es.
    chain (optional (ascii "vCardProps") [] (λ v. chain (as_array v) (each kept_from)) ms) λ ks.
    standing (record { uid = u; kind = k; full = n.full; parts = n.parts; maps = es; members = other_members ms; kept = ks }))

unfoldable pub card_from_json : Json → Option Card
card_from_json j = chain (as_object j) card_from_members
