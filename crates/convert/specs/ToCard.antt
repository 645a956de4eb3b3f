-- The model to a card's lines: VERSION, UID, KIND, FN, N, the maps in table order, JSPROP, kept lines.
use Rattle.std.specs.Prelude.{Bool, true, false, List, [], ◌∷◌, ◌++◌, map, get_or}
use Rattle.text.specs.Choice.{pick, with-some}
use Rattle.text.specs.Bytes.{Bytes, ascii, empty, joined, flat}
use Rattle.json_text.specs.Tree.{Member, member}
use Rattle.json_text.specs.Compact.{compact}
use Rattle.line.specs.Grammar.{param, Line}
use Rattle.line.specs.Text.{write_text}
use Rattle.line.specs.Write.{write_card}
use Rattle.convert.specs.Table.{Map, maps, type_names, vcard_type, feature-type}
use Rattle.convert.specs.Model.{Entry, Card, has_parts}
use Rattle.convert.specs.Value.{write_as, written_type, write_name}
use Rattle.convert.specs.Pointer.{pointer}
use Rattle.convert.specs.Property.{property, param_of}
use Rattle.convert.specs.FromJson.{kept_as_line}

abbrev pub where_filled : Bytes → Line → List Line
where_filled v l = pick (empty v) [] (l ∷ [])

abbrev pub line_where : Bool → Line → List Line
line_where true l = l ∷ []
line_where false l = []

-- with no full name one is made of the components
unfoldable pub derived_line : List (List Bytes) → Line
derived_line ps = property (ascii "fn") (param (ascii "derived") (ascii "TRUE" ∷ []) ∷ []) (write_text false (joined (ascii " ") (flat ps)))

unfoldable pub full_line : Card → Line
full_line c = with-some c.full (λ v. property (ascii "fn") [] (write_text false v)) (derived_line c.parts)

-- parameters PROP-ID, PREF, TYPE, VALUE
unfoldable pub entry_line : Map → Entry → Line
entry_line m e =
    property (get_or m.properties e.which [])
    (param (ascii "prop-id") (e.key ∷ []) ∷ (pick (empty e.pref) [] (param (ascii "pref") (e.pref ∷ []) ∷ [])
    ++ param_of (ascii "type") (map (λ t. vcard_type (get_or type_names t (feature-type [] []))) e.types)
    ++ param_of (ascii "value") (written_type m.form (flat e.parts))))
    (write_as m.form (flat e.parts))

unfoldable pub maps_lines : List Map → List (List Entry) → List Line
maps_lines [] ess = []
maps_lines (m ∷ ms) [] = []
maps_lines (m ∷ ms) (es ∷ ess) = map (entry_line m) es ++ maps_lines ms ess

unfoldable pub member_line : Member → Line
member_line (member n j) = property (ascii "jsprop") (param (ascii "jsptr") (pointer n ∷ []) ∷ []) (write_text false (compact j))

unfoldable pub card_lines : Card → List Line
card_lines c =
    property (ascii "version") [] (ascii "4.0") ∷ property (ascii "uid") [] c.uid
    ∷ (where_filled c.kind (property (ascii "kind") [] c.kind)
    ++ full_line c
    ∷ line_where (has_parts c.parts) (property (ascii "n") [] (write_name c.parts))
    ++ maps_lines maps c.maps
    ++ map member_line c.members
    ++ map kept_as_line c.kept)

unfoldable pub print_card : Card → Bytes
print_card c = write_card (card_lines c)
