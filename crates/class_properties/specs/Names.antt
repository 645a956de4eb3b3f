-- The property names that the converter knows, each by a number: 1 to 6 for those that stand alone, 16 + i for the properties of the map i.
use Rattle.std.specs.Prelude.{◌≡◌, List, [], ◌∷◌, map, ℕ, get_or}
use Rattle.std.proofs.Math.Option.{some}
use Rattle.text.specs.Choice.{pick}
use Rattle.text.specs.Bytes.{Bytes, ascii, same}
use Rattle.convert.specs.Table.{maps, Slot, slot_of}
use Rattle.convert_entry.specs.Rows.{form_number, Is}

pub data Named : Type 0 where
  named : (word : Bytes) (number : ℕ) → Named

-- of the table 'Converted lines': version, uid, kind, name and JSPROP; then the maps in their order
abbrev pub names : List Named
names =
    named (ascii "version") 1 ∷ named (ascii "uid") 2 ∷ named (ascii "kind") 3 ∷ named (ascii "fn") 4 ∷ named (ascii "n") 5 ∷ named (ascii "jsprop") 6
    ∷ named (ascii "nickname") 16 ∷ named (ascii "email") 17 ∷ named (ascii "tel") 18 ∷ named (ascii "url") 19 ∷ named (ascii "note") 20
    ∷ named (ascii "title") 21 ∷ named (ascii "role") 21 ∷ named (ascii "org") 22 ∷ []

unfoldable pub number_in : List Named → Bytes → ℕ
number_in [] n = 0
number_in (named w k ∷ ns) n = pick (same n w) k (number_in ns n)

-- n is lower-case; 0: another name
unfoldable pub name_number : Bytes → ℕ
name_number n = number_in names n

-- the map's row: how many values of TYPE it takes, and its form by number
unfoldable pub types_of : ℕ → ℕ
types_of i = get_or (map (λ m. m.types) maps) i 0

unfoldable pub form_of : ℕ → ℕ
form_of i = get_or (map (λ m. form_number m.form) maps) i 0

-- the slot of a name of the map i
pub record Slotted (n : Bytes) (i : ℕ) : Type 0 where
  pub slot : Slot
  pub is : slot_of n ≡ some slot
  pub row : Is slot i (types_of i) (form_of i)
