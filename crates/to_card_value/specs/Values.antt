-- The strings of an entry by the slots of its members, and how they stand in a line. Forms are numbers: see `form_code`.
use Rattle.std.specs.Prelude.{◌≡◌, Bool, true, false, ◌&&◌, ◌||◌, not, List, [], ◌∷◌, ◌++◌, map, ℕ, suc, ◌≤◌, ◌<◌, eqb, ltb, leb, drop, Err, Result, Ok}
use Rattle.to_card_value.specs.declared.Put.{Put}
use Rattle.to_card_pen.specs.declared.NoCard.{NoCard}
use Rattle.to_card_pen.specs.Refusal.{no_card}
use Rattle.std.proofs.Math.Option
use Rattle.std.proofs.Math.Option.{Option, none, some}
use Prim.Native.Char.{code}
use Rattle.text.specs.Choice.{pick, with-some, is_some, chain, provided}
use Rattle.text.specs.Bytes.{Bytes, ascii, any, all, empty, flat, joined, keep, each}
use Rattle.text.specs.Reader.{got, loop}
use Rattle.json_text.specs.Tree.{Json, Elems, elems_of, as_string, as_array}
use Rattle.json_text.specs.Syntax.{item, value}
use Rattle.json_text.specs.Strings.{decoded_elems}
use Rattle.json_strings.specs.Decoded.{decoded_at}
use Rattle.json_index.specs.Index.{json_at, Slot}
use Rattle.line.specs.Class.{is_control}
use Rattle.line.specs.Text.{write_text}
use Rattle.line.specs.Write.{fold_from}
use Rattle.line_pen.specs.declared.Pen.{Pen}
use Rattle.line_pen.specs.Pen.{Fills, Pens}
use Rattle.to_card_pen.specs.declared.Told.{Told}
use Rattle.to_card_pen.specs.Styles.{written_in, all_stand_in}
use Rattle.convert.specs.Table.{Form, text, single, uri, phone, organization}
use Rattle.convert.specs.Value.{filled, head_or, is_tel_uri}
use Rattle.convert.specs.FromJson.{unit_from}
use Rattle.convert.specs.Carry.{carried_raw, carried_text}
use Rattle.to_card_value.specs.declared.Inked.{Inked}

abbrev pub form_code : Form → ℕ
form_code text = 0
form_code single = 1
form_code uri = 2
form_code phone = 3
form_code organization = 4

-- ---- strings at places

abbrev pub StringIs : Bytes → ℕ → Option Bytes → Type 0
StringIs s r none = r ≡ 0
StringIs s r (some x) = (0 < r) × (decoded_at s r ≡ some x)

-- of whatever value stands at a place: the place of its first byte, where it is a string
abbrev pub TellsString : Bytes → ℕ → ℕ → Type 0
TellsString s at r = (d : ℕ) (v : Json) → json_at d s at ≡ some v → StringIs s r (as_string v)

abbrev pub TellsText : Bytes → ℕ → ℕ → Type 0
TellsText s slot r = (d : ℕ) (o : Option Json) → Slot d s slot o → StringIs s r (chain o as_string)

abbrev pub TellsUnit : Bytes → ℕ → ℕ → Type 0
TellsUnit s at r = (v : Json) → json_at 12 s at ≡ some v → StringIs s r (unit_from v)

abbrev pub blank_of : Option Bytes → Bool
blank_of none = false
blank_of (some x) = empty x

-- ---- phones: `tel:`, and no control but tab

unfoldable pub tel_byte : ℕ → ℕ → Bool
tel_byte k c = pick (eqb k 0) (eqb c (code "t")) (pick (eqb k 1) (eqb c (code "e")) (pick (eqb k 2) (eqb c (code "l")) (pick (eqb k 3) (eqb c (code ":")) (not (is_control c)))))

unfoldable pub on_tel : ℕ → ℕ
on_tel k = pick (ltb k 4) (suc k) 4

-- where k bytes of it were seen already
unfoldable pub tel_from : ℕ → Bytes → Bool
tel_from k [] = leb 4 k
tel_from k (c ∷ x) = tel_byte k c && tel_from (on_tel k) x

abbrev pub tel_of : Option Bytes → Bool
tel_of none = false
tel_of (some x) = is_tel_uri x

-- ---- pieces

abbrev pub pen_of : Told → Pen
pen_of r = record { bytes = r.bytes; column = r.column }

abbrev pub pen_as : Inked → Pen
pen_as r = record { bytes = r.bytes; column = r.column }

-- some bytes are written after the lead; they are those of the string, where it stands for bytes
pub record Inks (s : Bytes) (at : ℕ) (lead : Bytes) (style : ℕ) (room : Bytes) (column : ℕ) (r : Told) (after : Bytes) : Type 0 where
  pub text : Bytes
  pub is : (x : Bytes) → decoded_at s at ≡ some x → text ≡ x
  pub pens : Pens room column (lead ++ written_in style text) (pen_of r) after
  pub carried : r.carried ≡ all_stand_in style text

-- a unit: empty ones are gone
unfoldable pub unit_piece : Bytes → Bytes
unit_piece x = pick (filled x) (ascii ";" ++ write_text true x) []

unfoldable pub unit_carried : Bytes → Bool
unit_carried x = pick (filled x) (carried_text x) true

pub record UnitInks (s : Bytes) (at : ℕ) (room : Bytes) (column : ℕ) (r : Inked) (after : Bytes) : Type 0 where
  pub bytes : Bytes
  pub is : (x : Bytes) → decoded_at s at ≡ some x → bytes ≡ unit_piece x
  pub carried : (x : Bytes) → decoded_at s at ≡ some x → r.carried ≡ unit_carried x
  pub filled : (x : Bytes) → decoded_at s at ≡ some x → r.filled ≡ filled x
  pub pens : Pens room column bytes (pen_as r) after

-- what a piece of the value answers, and the whole of it
abbrev pub Ink : Type 0
Ink = Result Inked NoCard

abbrev pub inked : ℕ → ℕ → Bool → Bool → Ink
inked n k c f = Ok (record { bytes = n; column = k; carried = c; filled = f })

abbrev pub Written : Type 0
Written = Result Put NoCard

abbrev pub written : ℕ → Bool → Written
written n c = Ok (record { bytes = n; carries = c })

-- what is written is in the room
abbrev pub InkIn : ℕ → Ink → Type 0
InkIn room (Ok t) = t.bytes ≤ room
InkIn room (Err e) = Unit {0}

-- these bytes, whether a line can carry them, and whether any string was filled
abbrev pub InkedBy : Bytes → ℕ → Ink → Bytes → Bytes → Bool → Bool → Type 0
InkedBy room column r after bs c f = (n : ℕ) × (k : ℕ) × (r ≡ inked n k c f) × Pens room column bs (record { bytes = n; column = k }) after

-- ---- organizations

unfoldable pub units_piece : List Bytes → Bytes
units_piece us = flat (map unit_piece us)

abbrev pub UnitsAs : Bytes → ℕ → Ink → Bytes → Option (List Bytes) → Type 0
UnitsAs room column r after none = r ≡ Err no_card
UnitsAs room column r after (some us) = InkedBy room column r after (units_piece us) (all unit_carried us) (any filled us)

abbrev pub UnitsFrom : Bytes → ℕ → Bytes → ℕ → Ink → Bytes → Type 0
UnitsFrom s at room column r after = (us es : Elems) (t : Bytes) → loop (item (value 12)) (drop at s) ≡ got us t → decoded_elems us ≡ some es
    → UnitsAs room column r after (each unit_from (elems_of es))

unfoldable pub units_in : Option Json → Option (List Bytes)
units_in o = with-some o (λ v. chain (as_array v) (each unit_from)) (some [])

abbrev pub TellsUnits : Bytes → ℕ → Bytes → ℕ → Ink → Bytes → Type 0
TellsUnits s slot room column r after = (o : Option Json) → Slot 13 s slot o → UnitsAs room column r after (units_in o)

unfoldable pub name_in : Option Json → Option Bytes
name_in o = with-some o as_string (some [])

abbrev pub NameAs : Bytes → ℕ → Ink → Bytes → Option Bytes → Type 0
NameAs room column r after none = r ≡ Err no_card
NameAs room column r after (some n) = InkedBy room column r after (ascii ":" ++ write_text true n) (carried_text n) (filled n)

abbrev pub TellsName : Bytes → ℕ → Bytes → ℕ → Ink → Bytes → Type 0
TellsName s slot room column r after = (o : Option Json) → Slot 13 s slot o → NameAs room column r after (name_in o)

-- ---- any form

-- the strings of an entry, by the members that hold its content and its units
unfoldable pub org_in : Option Json → Option Json → Option (List Bytes)
org_in c u = provided (is_some c || is_some u) (chain (name_in c) λ n. chain (units_in u) λ us. provided (any filled (n ∷ us)) (some (n ∷ keep filled us)))

unfoldable pub texts_in : ℕ → Option Json → Option Json → Option (List Bytes)
texts_in form c u = pick (eqb form 4) (org_in c u) (Option.map (λ v. v ∷ []) (chain c as_string))

-- VALUE where it is needed, the colon, and the value
unfoldable pub value_in : ℕ → List Bytes → Bytes
value_in form vs =
    pick (eqb form 4) (ascii ":" ++ joined (ascii ";") (map (write_text true) vs))
    (pick (eqb form 3 && is_tel_uri (head_or [] vs)) (ascii ";VALUE=uri:" ++ head_or [] vs)
    (ascii ":" ++ pick (eqb form 2) (head_or [] vs) (write_text false (head_or [] vs))))

unfoldable pub carried_in : ℕ → List Bytes → Bool
carried_in form vs = pick (eqb form 2) (all carried_raw vs) (all carried_text vs)

abbrev pub PutIn : ℕ → Written → Type 0
PutIn room (Ok p) = p.bytes ≤ room
PutIn room (Err e) = Unit {0}

abbrev pub ValueAs : ℕ → Bytes → ℕ → Written → Bytes → Option (List Bytes) → Type 0
ValueAs form room column r after none = r ≡ Err no_card
ValueAs form room column r after (some vs) = (n : ℕ) × (r ≡ written n (carried_in form vs)) × Fills room (fold_from column (value_in form vs)) n after

abbrev pub TellsOrg : Bytes → ℕ → ℕ → Bytes → ℕ → Written → Bytes → Type 0
TellsOrg s name units room column r after = (c u : Option Json) → Slot 13 s name c → Slot 13 s units u → ValueAs 4 room column r after (org_in c u)

abbrev pub TellsValue : Bytes → ℕ → ℕ → ℕ → Bytes → ℕ → Written → Bytes → Type 0
TellsValue s content units form room column r after = (c u : Option Json) → Slot 13 s content c → Slot 13 s units u → ValueAs form room column r after (texts_in form c u)
