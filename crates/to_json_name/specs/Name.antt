-- The member `name`: FN as full, N as components.
use Rattle.std.specs.Prelude.{◌≡◌, Bool, true, false, ◌||◌, not, List, [], ◌∷◌, ◌++◌, ℕ, zero, suc, ◌≤◌, eqb, length, drop, get_or}
use Rattle.std.proofs.Math.Option.{Option, none}
use Prim.Native.Char.{code}
use Rattle.text.specs.Choice.{pick, with-some, is_some}
use Rattle.text.specs.Bytes.{Bytes, ascii, empty, keep, flat}
use Rattle.line.specs.Text.{read_text, split_text}
use Rattle.json_text.specs.Tree.{member}
use Rattle.json_text.specs.Compact.{quoted}
use Rattle.line_text.specs.Read.{plain_text}
use Rattle.convert.specs.Model.{no_parts}
use Rattle.convert.specs.Value.{head_or, read_name}
use Rattle.convert.specs.ToJson.{where', name_json}
use Rattle.convert_put.specs.Pieces.{after}
use Rattle.convert_values.specs.Values.{texts_of, Readable}
use Rattle.to_json_items.specs.Items.{listed, is_own}

-- ---- N's parts

-- part k of N, empty where it is missing
abbrev pub part_of : Bytes → ℕ → Bytes
part_of v k = get_or (split_text (code ";") v) k []

-- where part k begins
pub record PartFrom (v : Bytes) (k r : ℕ) : Type 0 where
  pub within : r ≤ length v
  pub is : head_or [] (split_text (code ";") (drop r v)) ≡ part_of v k

-- the part whose values part k does not repeat: the secondary surnames for the family, the generations for suffixes, else none
unfoldable pub other_part : ℕ → ℕ
other_part k = pick (eqb k 0) 5 (pick (eqb k 4) 6 7)

unfoldable pub others_of : Bytes → ℕ → Bytes
others_of v k = pick (eqb (other_part k) 7) [] (part_of v (other_part k))

-- the values of part k that are its own
unfoldable pub values_of : Bytes → ℕ → List Bytes
values_of v k = keep (is_own (texts_of (code ",") (others_of v k))) (texts_of (code ",") (part_of v k))

-- the components of n parts from part k on
unfoldable pub components_from : ℕ → Bytes → ℕ → Bool → Bytes
components_from zero v k begun = []
components_from (suc n) v k begun = listed k begun (values_of v k) ++ components_from n v (suc k) (begun || not (empty (values_of v k)))

-- no part has a bad escape
pub record NameSound (v : Bytes) : Type 0 where
  pub readable : (k : ℕ) → Readable (code ",") (part_of v k)

-- ---- the member

unfoldable pub full_piece : Bool → Bytes → Bytes
full_piece full v = pick full (flat (ascii "\"full\":" ∷ quoted (plain_text v) [] ∷ [])) []

unfoldable pub parts_piece : Bool → Bool → Bytes → Bytes
parts_piece full parts v =
    pick parts (flat (pick full (ascii ",\"components\":") (ascii "\"components\":") ∷ flat ((code "[" ∷ []) ∷ components_from 7 v 0 false ∷ (code "]" ∷ []) ∷ []) ∷ [])) []

-- FN's value is TEXT and N's value is a name, where they are given
pub record NamesSound (full : Bool) (fv : Bytes) (parts : Bool) (nv : Bytes) : Type 0 where
  pub text : full ≡ true → is_some (read_text fv) ≡ true
  pub name : parts ≡ true → is_some (read_name nv) ≡ true

-- name.full and the parts of name.components
abbrev pub full_of : Bool → Bytes → Option Bytes
full_of full v = pick full (read_text v) none

abbrev pub parts_of : Bool → Bytes → List (List Bytes)
parts_of parts v = pick parts (with-some (read_name v) (λ ps. ps) no_parts) no_parts

unfoldable pub name_bytes : Bool → Bytes → Bool → Bytes → Bytes
name_bytes full fv parts nv = after (where' (full || parts) (member (ascii "name") (name_json (full_of full fv) (parts_of parts nv))))
