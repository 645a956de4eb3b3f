-- Lists of TEXT values as JSON: the components of a name, the units of an organization.
use Rattle.std.specs.Prelude.{Bool, true, ◌&&◌, not, List, [], ◌∷◌, ◌++◌, ℕ, eqb, ltb, get_or}
use Prim.Native.Char.{code}
use Rattle.text.specs.Choice.{pick}
use Rattle.text.specs.Bytes.{Bytes, ascii, among, flat}
use Rattle.json_text.specs.Tree.{Json}
use Rattle.json_text.specs.Compact.{quoted, written}
use Rattle.convert.specs.Table.{component_kinds}
use Rattle.convert.specs.Value.{filled}

-- ---- one item: of kind k the component of that kind, of kind 7 and 8 a unit (8: no name stands before the units)

unfoldable pub lead : ℕ → Bytes
lead k = pick (ltb k 7) (flat (ascii "{\"kind\":" ∷ quoted (get_or component_kinds k []) [] ∷ ascii ",\"value\":" ∷ [])) (ascii "{\"name\":")

-- what stands before the first
unfoldable pub opening : ℕ → Bytes
opening k = pick (eqb k 7) (ascii ",\"units\":[") (pick (eqb k 8) (ascii "\"units\":[") [])

unfoldable pub item_head : Bool → ℕ → Bytes
item_head begun k = pick begun (code "," ∷ []) (opening k)

abbrev pub item_piece : Bool → ℕ → Bytes → Bytes
item_piece begun k t = flat (item_head begun k ∷ lead k ∷ quoted t [] ∷ (code "}" ∷ []) ∷ [])

unfoldable pub listed : ℕ → Bool → List Bytes → Bytes
listed k begun [] = []
listed k begun (t ∷ ts) = item_piece begun k t ++ listed k true ts

-- ---- which values: those that are filled and not among others

unfoldable pub is_own : List Bytes → Bytes → Bool
is_own others t = filled t && not (among t others)

-- ---- elements of an array with commas between them; the flag says that another came before
unfoldable pub elems : Bool → List Json → Bytes
elems begun [] = []
elems begun (j ∷ js) = pick begun (code "," ∷ []) [] ++ (written j [] ++ elems true js)
