-- The parts of a name in an order that is given as data, and whether two kinds are apart.
use Rattle.std.specs.Prelude.{◌≡◌, Bool, true, false, ◌&&◌, ◌||◌, not, List, [], ◌∷◌, ◌++◌, map, ℕ, ◌-◌, ◌≤◌, eqb, ltb, length, take}
use Rattle.std.proofs.Math.Option.{some}
use Prim.Native.Char.{code}
use Rattle.text.specs.Choice.{pick}
use Rattle.text.specs.Bytes.{Bytes, all, among, empty}
use Rattle.json_strings.specs.Decoded.{decoded_at}
use Rattle.json_prints.specs.Prints.{print_of, Names}
use Rattle.line_pen.specs.Pen.{Pens}
use Rattle.to_card_pen.specs.declared.Told.{Told}
use Rattle.to_card_pen.specs.Styles.{written_in, all_stand_in}
use Rattle.convert.specs.Model.{part}
use Rattle.convert.specs.Value.{filled}
use Rattle.convert.specs.Carry.{apart}
use Rattle.convert.specs.FromJson.{Component, by_kind}
use Rattle.to_card_parts.specs.declared.Inked.{Inked}
use Rattle.to_card_parts.specs.Parts.{Lists, values_of, Marked, list_from, value_if}
use Rattle.to_card_order.specs.declared.Kept.{Kept}

-- ---- an order of kinds: digits, and semicolons between parts

-- the values that a digit names
unfoldable pub values_at : List (List Bytes) → ℕ → List Bytes
values_at ps c = pick (ltb c (code "0")) [] (part ps (c - code "0"))

abbrev pub place_text : ℕ → ℕ → List (List Bytes) → Bool → ℕ → Bytes
place_text style mark ps b c = pick (eqb c (code ";")) (c ∷ []) (list_from mark b (map (written_in style) (values_at ps c)))

abbrev pub place_begun : List (List Bytes) → Bool → ℕ → Bool
place_begun ps b c = pick (eqb c (code ";")) false (b || not (empty (values_at ps c)))

abbrev pub place_carried : ℕ → List (List Bytes) → ℕ → Bool
place_carried style ps c = pick (eqb c (code ";")) true (all (all_stand_in style) (values_at ps c))

-- the flag says that a value of the part has been written
unfoldable pub order_from : ℕ → ℕ → List (List Bytes) → Bool → Bytes → Bytes
order_from style mark ps b [] = []
order_from style mark ps b (c ∷ o) = place_text style mark ps b c ++ order_from style mark ps (place_begun ps b c) o

unfoldable pub carried_order : ℕ → List (List Bytes) → Bytes → Bool
carried_order style ps [] = true
carried_order style ps (c ∷ o) = place_carried style ps c && carried_order style ps o

pub record SaysPlace (style mark : ℕ) (ps : List (List Bytes)) (begun : Bool) (c : ℕ) (text : Bytes) (b ok : Bool) : Type 0 where
  pub is-text : text ≡ place_text style mark ps begun c
  pub is-begun : b ≡ place_begun ps begun c
  pub is_carried : ok ≡ place_carried style ps c

-- some bytes are written; where components stand there and their kinds are marked, these
pub record InksPlace (s : Bytes) (at : ℕ) (marks : List ℕ) (style mark place : ℕ) (begun : Bool) (room : Bytes) (column : ℕ) (r : Inked) (after : Bytes) : Type 0 where
  pub text : Bytes
  pub pens : Pens room column text (record { bytes = r.bytes; column = r.column }) after
  pub says : (cs : List Component) → Lists s at cs → Marked marks cs → SaysPlace style mark (by_kind cs) begun place text r.begun r.carried

pub record InksOrder (s : Bytes) (at : ℕ) (marks : List ℕ) (style mark : ℕ) (order room : Bytes) (column : ℕ) (r : Told) (after : Bytes) : Type 0 where
  pub text : Bytes
  pub pens : Pens room column text (record { bytes = r.bytes; column = r.column }) after
  pub says : (cs : List Component) → Lists s at cs → Marked marks cs
      → (text ≡ order_from style mark (by_kind cs) false order) × (r.carried ≡ carried_order style (by_kind cs) order)

-- ---- values that two kinds share (13)

abbrev pub FindsAmong : Bytes → ℕ → ℕ → ℕ → Bool → Type 0
FindsAmong s at kind value r = (cs : List Component) → Lists s at cs → (x : Bytes) → decoded_at s value ≡ some x → filled x ≡ true → r ≡ among x (values_of kind cs)

abbrev pub Clashes : Bytes → ℕ → Bool → ℕ → ℕ → Bool → Type 0
Clashes s at wanted value kind r = (cs : List Component) → Lists s at cs → (x : Bytes) → decoded_at s value ≡ some x → not r ≡ apart (value_if wanted x) (values_of kind cs)

abbrev pub TellsApart : Bytes → ℕ → ℕ → ℕ → Bool → Type 0
TellsApart s at one other r = (cs : List Component) → Lists s at cs → r ≡ apart (values_of one cs) (values_of other cs)

-- ---- the same by values that are noted

-- the print of a value that is not empty and asked for, and no print of others
pub record PrintsValue (s : Bytes) (wanted : Bool) (value r : ℕ) : Type 0 where
  pub in-range : r ≤ 65536
  pub print-is : (r ≡ 65536 → ⊥) → r ≡ print_of 0 (decoded_at s value)
  pub value-is : (r ≡ 65536 → ⊥) → (x : Bytes) → decoded_at s value ≡ some x → value_if wanted x ≡ x ∷ []
  pub value_none : r ≡ 65536 → (x : Bytes) → decoded_at s value ≡ some x → value_if wanted x ≡ []

-- the first n values noted stand for these
abbrev pub Noted : Bytes → List ℕ → List ℕ → ℕ → List Bytes → Type 0
Noted s places prints n ws = Names s (take n places) (take n prints) ws

abbrev pub MeetsNoted : Bytes → Bool → ℕ → List ℕ → List ℕ → ℕ → Bool → Type 0
MeetsNoted s wanted value places prints n r = (ws : List Bytes) → Noted s places prints n ws → (x : Bytes) → decoded_at s value ≡ some x → not r ≡ apart (value_if wanted x) ws

abbrev pub ApartNoted : Bytes → ℕ → ℕ → List ℕ → List ℕ → ℕ → Bool → Type 0
ApartNoted s at kind places prints n r = (cs : List Component) → Lists s at cs → (ws : List Bytes) → Noted s places prints n ws → r ≡ apart (values_of kind cs) ws

-- values noted, and one more: some go, and whether the one kind is apart from them is told; the others are noted
pub record Keeps (s : Bytes) (vs ws : List Bytes) (places prints : List ℕ) (r : Kept) : Type 0 where
  pub gone : List Bytes
  pub noted : List Bytes
  pub these : gone ++ noted ≡ ws
  pub told : r.ok ≡ apart vs gone
  pub are : Noted s places prints r.count noted

pub record NotesValue (s : Bytes) (at one : ℕ) (wanted : Bool) (value : ℕ) (places prints : List ℕ) (n : ℕ) (places' prints' : List ℕ) (r : Kept) : Type 0 where
  pub few : r.count ≤ 2304
  pub long-places : length places' ≡ length places
  pub long-prints : length prints' ≡ length prints
  pub says : (cs : List Component) → Lists s at cs → (ws : List Bytes) → Noted s places prints n ws → (x : Bytes) → decoded_at s value ≡ some x
      → Keeps s (values_of one cs) (ws ++ value_if wanted x) places' prints' r
