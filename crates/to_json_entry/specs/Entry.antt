-- What is written of a line of a map that converts.
use Rattle.std.specs.Prelude.{◌≡◌, Bool, true, false, not, List, [], ◌∷◌, map, ℕ, ◌+◌, eqb, ltb, length, drop, get_or}
use Rattle.std.proofs.Math.Option.{some}
use Prim.Native.Char.{code}
use Rattle.text.specs.Choice.{pick, is_some}
use Rattle.text.specs.Bytes.{Bytes, ascii, empty, lowered, keep, flat}
use Rattle.line.specs.Text.{read_text, split_text}
use Rattle.line_text.specs.Read.{plain_text}
use Rattle.json_text.specs.Tree.{member, jstr}
use Rattle.json_text.specs.Compact.{quoted}
use Rattle.output.specs.Put.{Wrote}
use Rattle.output.specs.Put.{Puts}
use Rattle.convert.specs.Table.{Slot, slot_of}
use Rattle.convert.specs.Model.{Entry}
use Rattle.convert.specs.Value.{filled}
use Rattle.convert.specs.Classify.{Seen, entry_of}
use Rattle.convert.specs.ToJson.{where', entry_json}
use Rattle.line_table.specs.Table.{line_in}
use Rattle.convert_params.specs.declared.Rows.{Rows}
use Rattle.convert_entry.specs.Rows.{Is}
use Rattle.convert_put.specs.Pieces.{kind_piece, content_piece, value_piece, member_bytes, before}
use Rattle.table_entry.specs.Key.{Rowed}
use Rattle.convert_values.specs.Values.{Readable}
use Rattle.to_json_items.specs.Items.{listed}

-- an entry with its key
abbrev pub keyed : Bytes → Entry → Entry
keyed k e = record { key = k; which = e.which; parts = e.parts; types = e.types; pref = e.pref }

-- the pieces of the row of the table: the content's name, and the kind where the map has kinds
pub record RowPieces (w : Slot) (i kind : ℕ) : Type 0 where
  pub content : quoted w.map.content (code ":" ∷ []) ≡ content_piece i
  pub kinds : before (where' (not (empty w.map.kinds)) (member (ascii "kind") (jstr (get_or w.map.kinds w.which [])))) ≡ kind_piece kind

-- the table's line converts, for something seen before and some slot with that row of the table of maps
pub record MapLine (s : Bytes) (t : List ℕ) (R : Rows) (i types form : ℕ) : Type 0 where
  pub rowed : Rowed s t R
  pub seen : Seen
  pub slot : Slot
  pub entry : Entry
  pub is : Is slot i types form
  pub converts : entry_of seen slot (line_in s t) ≡ some entry

-- for everything seen before, every slot with that row and every entry that the line becomes
abbrev pub PutsEntry : Bytes → Bytes → List ℕ → ℕ → ℕ → ℕ → ℕ → Bytes → Wrote → Bytes → Type 0
PutsEntry room s t i types form kind key r out =
    (seen : Seen) (w : Slot) (e : Entry) → Is w i types form → RowPieces w i kind → entry_of seen w (line_in s t) ≡ some e
    → Puts room (member_bytes (entry_json w.map (keyed key e))) r out

-- the kind is that of the slot of the line's name
abbrev pub KindOfLine : Bytes → List ℕ → ℕ → Type 0
KindOfLine s t r = (w : Slot) → slot_of (lowered (line_in s t).name) ≡ some w → RowPieces w w.index r

-- ---- the strings of an entry

-- one string and its name
abbrev pub string_piece : ℕ → Bool → Bytes → Bytes
string_piece i raw v = flat (content_piece i ∷ value_piece raw v ∷ [])

-- ORG: the first part is its name, where it is filled
unfoldable pub org_name : ℕ → Bytes → Bytes
org_name i u = pick (empty u) [] (string_piece i false u)

-- its units where there are any: 7 after a name, 8 without one
unfoldable pub units_piece : ℕ → List Bytes → Bytes
units_piece k us = flat (listed k false us ∷ pick (empty us) [] (code "]" ∷ []) ∷ [])

-- the parts after the one that ends at e, those that are filled, as they read
abbrev pub units_after : Bytes → ℕ → List Bytes
units_after v e = keep filled (map plain_text (pick (ltb e (length v)) (split_text (code ";") (drop (e + 1) v)) []))

unfoldable pub org_piece : ℕ → List Bytes → Bytes
org_piece i [] = []
org_piece i (u ∷ us) = flat (org_name i u ∷ units_piece (pick (not (empty u)) 7 8) (keep filled (map plain_text us)) ∷ [])

-- by the form's number: 4 is ORG's
unfoldable pub strings_piece : ℕ → ℕ → Bool → Bytes → Bytes
strings_piece i form raw v = pick (eqb form 4) (org_piece i (split_text (code ";") v)) (string_piece i raw v)

-- the value has no bad escape where it is TEXT
pub record StringsSound (form : ℕ) (raw : Bool) (v : Bytes) : Type 0 where
  pub org : form ≡ 4 → Readable (code ";") v
  pub plain : (form ≡ 4 → ⊥) → is_some (read_text (pick raw [] v)) ≡ true
