-- A kept line as an entry of vCardProps, in the pieces that the code writes.
use Rattle.std.specs.Prelude.{◌≡◌, Bool, List, [], ◌∷◌, ℕ, ◌≤◌, ltb, get_or}
use Prim.Native.Char.{code}
use Rattle.text.specs.Choice.{pick}
use Rattle.text.specs.Bytes.{Bytes, ascii, empty, lowered, flat}
use Rattle.json_text.specs.Compact.{quoted, written}
use Rattle.line.specs.Params.{values_named, value_type}
use Rattle.convert.specs.ToJson.{values_json}
use Rattle.line_table.specs.Table.{value_at, line_in}

-- a parameter of that name in lower case: all its values, wherever they stand
abbrev pub param_piece : Bool → Bytes → List ℕ → Bytes → Bytes
param_piece begun s t x =
    flat (pick begun (code "," ∷ []) [] ∷ quoted (lowered x) [] ∷ (code ":" ∷ []) ∷ written (values_json (values_named (lowered x) (line_in s t).params)) [] ∷ [])

-- the group comes first, where there is one
unfoldable pub group_piece : Bytes → Bytes
group_piece g = pick (empty g) [] (flat (ascii "\"group\":" ∷ quoted (lowered g) [] ∷ []))

-- the row of the first VALUE; the number of rows where there is none
pub record ValueRow (s : Bytes) (t : List ℕ) (r : ℕ) : Type 0 where
  pub upto : r ≤ get_or t 6 0
  pub is : value_type (line_in s t).params ≡ lowered (pick (ltb r (get_or t 6 0)) (value_at s t r) (ascii "unknown"))

-- what stands before the parameters, and after them
abbrev pub head_piece : Bytes → Bytes → Bytes
head_piece name group = flat ((code "[" ∷ []) ∷ quoted (lowered name) [] ∷ (code "," ∷ code "{" ∷ []) ∷ group_piece group ∷ [])

abbrev pub tail_piece : Bytes → List ℕ → Bytes → Bytes
tail_piece s t value = flat ((code "}" ∷ code "," ∷ []) ∷ quoted (value_type (line_in s t).params) [] ∷ (code "," ∷ []) ∷ quoted value [] ∷ (code "]" ∷ []) ∷ [])
