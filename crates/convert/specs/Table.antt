-- The table 'Converted lines' of 01 as data: one row a map, and the values of TYPE.
use Rattle.std.specs.Prelude.{Bool, true, false, not, List, [], ◌∷◌, ◌++◌, map, ℕ, suc, eqb}
use Rattle.std.proofs.Math.Option.{Option, none, some}
use Rattle.text.specs.Choice.{pick, with-some}
use Rattle.text.specs.Bytes.{Bytes, ascii, same, any, keep}

-- ---- the seven maps

-- How a property's value and an entry's strings stand for each other.
pub data Form : Type 0 where
  text : Form  -- TEXT
  single : Form  -- TEXT without a bare comma (NICKNAME)
  uri : Form  -- raw
  phone : Form  -- TEXT, or raw with VALUE=uri
  organization : Form  -- TEXT parts: the name, then units

pub record Map : Type 0 where
  pub member : Bytes  -- the top-level member
  pub prefix : Bytes  -- of keys made where there is no PROP-ID
  pub properties : List Bytes  -- property names, lower-case
  pub kinds : List Bytes  -- the entry's kind for each of them, where it has one
  pub content : Bytes  -- the member that holds the string
  pub form : Form
  pub parameters : List Bytes  -- that its lines take besides VALUE, lower-case
  pub types : ℕ  -- how many values of the table of TYPE it takes

abbrev pub maps : List Map
maps =
    record { member = ascii "nicknames"; prefix = ascii "NICK"; properties = ascii "nickname" ∷ []; kinds = []; content = ascii "name"; form = single; parameters = ascii "prop-id" ∷ ascii "pref" ∷ ascii "type" ∷ []; types = 2 }
    ∷ record { member = ascii "emails"; prefix = ascii "EMAIL"; properties = ascii "email" ∷ []; kinds = []; content = ascii "address"; form = text; parameters = ascii "prop-id" ∷ ascii "pref" ∷ ascii "type" ∷ []; types = 2 }
    ∷ record { member = ascii "phones"; prefix = ascii "PHONE"; properties = ascii "tel" ∷ []; kinds = []; content = ascii "number"; form = phone; parameters = ascii "prop-id" ∷ ascii "pref" ∷ ascii "type" ∷ []; types = 9 }
    ∷ record { member = ascii "links"; prefix = ascii "LINK"; properties = ascii "url" ∷ []; kinds = []; content = ascii "uri"; form = uri; parameters = ascii "prop-id" ∷ ascii "pref" ∷ ascii "type" ∷ []; types = 2 }
    ∷ record { member = ascii "notes"; prefix = ascii "NOTE"; properties = ascii "note" ∷ []; kinds = []; content = ascii "note"; form = text; parameters = ascii "prop-id" ∷ []; types = 0 }
    ∷ record { member = ascii "titles"; prefix = ascii "TITLE"; properties = ascii "title" ∷ ascii "role" ∷ []; kinds = ascii "title" ∷ ascii "role" ∷ []; content = ascii "name"; form = text; parameters = ascii "prop-id" ∷ []; types = 0 }
    ∷ record { member = ascii "organizations"; prefix = ascii "ORG"; properties = ascii "org" ∷ []; kinds = []; content = ascii "name"; form = organization; parameters = ascii "prop-id" ∷ []; types = 0 }
    ∷ []

-- top-level members that no JSPROP line makes: those of a card, the maps', and that of kept lines
abbrev pub reserved : List Bytes
reserved =
    ascii "@type" ∷ ascii "version" ∷ ascii "uid" ∷ ascii "kind" ∷ ascii "name" ∷ (map (λ (m : Map). m.member) maps ++ (ascii "vCardProps" ∷ []))

-- ---- TYPE: its value, and the JSON name of the context or feature that it stands for; contexts first, each alphabetical by JSON name

pub data TypeName : Type 0 where
  context-type feature-type : (vcard json : Bytes) → TypeName

abbrev pub type_names : List TypeName
type_names =
    context-type (ascii "home") (ascii "private") ∷ context-type (ascii "work") (ascii "work")
    ∷ feature-type (ascii "fax") (ascii "fax") ∷ feature-type (ascii "cell") (ascii "mobile") ∷ feature-type (ascii "pager") (ascii "pager")
    ∷ feature-type (ascii "text") (ascii "text") ∷ feature-type (ascii "textphone") (ascii "textphone") ∷ feature-type (ascii "video") (ascii "video")
    ∷ feature-type (ascii "voice") (ascii "voice") ∷ []

abbrev pub vcard_type : TypeName → Bytes
vcard_type (context-type v j) = v
vcard_type (feature-type v j) = v

abbrev pub json_type : TypeName → Bytes
json_type (context-type v j) = j
json_type (feature-type v j) = j

abbrev pub is_context : TypeName → Bool
is_context (context-type v j) = true
is_context (feature-type v j) = false

-- the places, from i on, of those that a test takes
abbrev pub places_of : (TypeName → Bool) → ℕ → List TypeName → List ℕ
places_of p i [] = []
places_of p i (t ∷ ts) = pick (p t) (i ∷ places_of p (suc i) ts) (places_of p (suc i) ts)

-- places in the table of TYPE
abbrev pub context_codes : List ℕ
context_codes = places_of is_context 0 type_names

abbrev pub feature_codes : List ℕ
feature_codes = places_of (λ t. not (is_context t)) 0 type_names

-- codes without repeats, in the table's order
unfoldable pub in_order : List ℕ → List ℕ
in_order cs = keep (λ c. any (eqb c) cs) (context_codes ++ feature_codes)

-- ---- structured values

-- A part of a structured value: the kind of its components, and the later part whose values it repeats.
pub record Part : Type 0 where
  pub kind : Bytes
  pub repeats : Option ℕ

-- the kinds of components, in the order of a row's parts
abbrev pub kinds_of : List Part → List Bytes
kinds_of row = map (λ (p : Part). p.kind) row

-- N as one row: secondary surnames stand among the family names too, generations among the suffixes
abbrev pub name_row : List Part
name_row =
    record { kind = ascii "surname"; repeats = some 5 } ∷ record { kind = ascii "given"; repeats = none }
    ∷ record { kind = ascii "given2"; repeats = none } ∷ record { kind = ascii "title"; repeats = none }
    ∷ record { kind = ascii "credential"; repeats = some 6 } ∷ record { kind = ascii "surname2"; repeats = none }
    ∷ record { kind = ascii "generation"; repeats = none } ∷ []

abbrev pub component_kinds : List Bytes
component_kinds = kinds_of name_row

-- ---- finding a place in a list

unfoldable pub position : {A : Type 0} → (A → Bool) → List A → Option ℕ
position p [] = none
position p (x ∷ xs) = pick (p x) (some 0) (with-some (position p xs) (λ n. some (suc n)) none)

-- the map that a property belongs to, its place in the table, and which of the map's properties it is
pub record Slot : Type 0 where
  pub index : ℕ
  pub map : Map
  pub which : ℕ

unfoldable pub slot_from : ℕ → List Map → Bytes → Option Slot
slot_from i [] n = none
slot_from i (m ∷ ms) n =
    with-some (position (same n) m.properties) (λ k. some (record { index = i; map = m; which = k })) (slot_from (suc i) ms n)

-- n is a lower-case property name
unfoldable pub slot_of : Bytes → Option Slot
slot_of n = slot_from 0 maps n
