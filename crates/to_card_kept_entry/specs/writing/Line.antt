-- A kept line as bytes, piece by piece: what each row of its table adds, and what is promised of the whole.
use Rattle.std.specs.Prelude.{◌≡◌, Bool, true, List, [], ◌∷◌, ◌++◌, ℕ}
use Prim.Native.Char.{code}
use Rattle.text.specs.Choice.{pick}
use Rattle.text.specs.Bytes.{Bytes, ascii, all, same, uppered}
use Rattle.line.specs.Grammar.{Param, param, param_values}
use Rattle.line.specs.Write.{write_value, write_values}
use Rattle.line_pen.specs.Pen.{Fills, Pens}
use Rattle.convert.specs.Model.{Kept}
use Rattle.convert.specs.FromJson.{is_lower_word, kept_as_line}
use Rattle.convert.specs.Carry.{carried_param, carried_kept}
use Rattle.to_card_kept_entry.specs.entry.Entry.{HoldsKept}
use Rattle.to_card_pen.specs.declared.Told.{Told}
use Rattle.to_card_lines.specs.declared.Penned.{Penned}
use Rattle.to_card_lines.specs.Lines.{line_bytes}

-- ---- parameters

-- JSPTR, whose values are always quoted
abbrev pub is_pointer : Bytes → Bool
is_pointer n = same (uppered n) (ascii "JSPTR")

-- what stands before a value: a comma, or `;NAME=` where its parameter begins
unfoldable pub lead_text : Bool → Bytes → Bytes
lead_text more n = pick more (code "," ∷ []) (code ";" ∷ (uppered n ++ code "=" ∷ []))

-- a row of the table: what stands before its value, and the value
unfoldable pub row_text : Bool → Bytes → Bool → Bytes → Bytes
row_text more n quoted v = lead_text more n ++ write_value quoted v []

-- parameters without the colon after them (`write_params`: law `params-then`)
unfoldable pub params_text : List Param → Bytes
params_text [] = []
params_text (param n vs ∷ ps) = code ";" ∷ (uppered n ++ code "=" ∷ write_values (is_pointer n) vs []) ++ params_text ps

-- a line can carry all values of these (13 otherwise)
unfoldable pub carried_params : List Param → Bool
carried_params ps = all (λ p. all carried_param (param_values p)) ps

-- a piece of a line is written, and it is told whether a line can carry its strings
pub record Tells (room : Bytes) (column : ℕ) (bs : Bytes) (ok : Bool) (r : Told) (after : Bytes) : Type 0 where
  pub pens : Pens room column bs (record { bytes = r.bytes; column = r.column }) after
  pub carried : r.carried ≡ ok

-- ---- the whole line

-- as much of the kept line as fits, and whether a line can carry it
pub record KeptPut (room : Bytes) (k : Kept) (r : Penned) (after : Bytes) : Type 0 where
  pub fills : Fills room (line_bytes (kept_as_line k)) r.bytes after
  pub carried : r.carried ≡ carried_kept k

-- of whatever kept line the table holds; its type, in lower case, is always carried
abbrev pub PutsKept : Bytes → List ℕ → Bytes → Penned → Bytes → Type 0
PutsKept b t room r after = (k : Kept) → HoldsKept b t k → is_lower_word k.type ≡ true → KeptPut room k r after
