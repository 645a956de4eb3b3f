-- The components of a name: what a pass over them says, and their values kind by kind.
use Rattle.std.specs.Prelude.{◌≡◌, Bool, true, ◌&&◌, ◌||◌, not, List, [], ◌∷◌, ◌++◌, map, ℕ, ◌+◌, ◌≤◌, ◌<◌, eqb, length, drop, get_or, set, Err, Ok, Result, Option as Maybe, Some, None}
use Rattle.to_card_parts.specs.declared.Ended.{Ended}
use Rattle.to_card_parts.specs.declared.Found.{Found}
use Rattle.to_card_pen.specs.declared.NoCard.{NoCard}
use Rattle.to_card_pen.specs.Refusal.{no_card}
use Rattle.std.proofs.Math.Option.{Option, none, some}
use Rattle.text.specs.Choice.{pick, both, chain}
use Rattle.text.specs.Bytes.{Bytes, all, empty, each, flat, same}
use Rattle.text.specs.Reader.{got, loop}
use Rattle.json_text.specs.Tree.{Json, Elems, elems_of, as_string, as_array}
use Rattle.json_text.specs.Syntax.{item, value}
use Rattle.json_text.specs.Strings.{decoded_elems}
use Rattle.json_strings.specs.Decoded.{decoded_at}
use Rattle.json_index.specs.Index.{json_at, Slot, ValueEnds}
use Rattle.line_pen.specs.Pen.{Pens}
use Rattle.to_card_pen.specs.Styles.{written_in, all_stand_in}
use Rattle.convert.specs.Table.{position, component_kinds}
use Rattle.convert.specs.Value.{filled}
use Rattle.convert.specs.FromJson.{Component, component, component_of, of_kind}
use Rattle.card_table.specs.Numbers.{part_count}
use Rattle.to_card_parts.specs.declared.Inked.{Inked}

-- ---- one component

abbrev pub kind_from : Option Json → Option ℕ
kind_from o = chain o λ k. chain (as_string k) λ x. position (same x) component_kinds

abbrev pub string_from : Option Json → Option Bytes
string_from o = chain o as_string

abbrev pub Finding : Type 0
Finding = Result Found NoCard

abbrev pub found : ℕ → ℕ → Finding
found k p = Ok (record { kind = k; value = p })

abbrev pub KindIn : Finding → Type 0
KindIn (Ok f) = f.kind < part_count
KindIn (Err e) = Unit {0}

-- its kind, and the place of its value
abbrev pub ComponentIs : Bytes → Finding → Option Component → Type 0
ComponentIs s r none = r ≡ Err no_card
ComponentIs s r (some (component k x)) = (p : ℕ) × (r ≡ found k p) × (decoded_at s p ≡ some x)

abbrev pub TellsSlots : Bytes → ℕ → ℕ → Finding → Type 0
TellsSlots s kind value r = (o o' : Option Json) → Slot 12 s kind o → Slot 12 s value o' → ComponentIs s r (both component (kind_from o) (string_from o'))

abbrev pub TellsComponent : Bytes → ℕ → Finding → Type 0
TellsComponent s at r = (v : Json) → json_at 13 s at ≡ some v → ComponentIs s r (component_of v)

-- the same, and the place after it
abbrev pub Ending : Type 0
Ending = Result Ended NoCard

abbrev pub found_of : Ending → Finding
found_of (Ok f) = Ok f.found
found_of (Err e) = Err e

abbrev pub EndIn : Bytes → ℕ → Ending → Type 0
EndIn s at (Ok f) = ValueEnds 12 s at f.end
EndIn s at (Err e) = Unit {0}

-- ---- the array of them

-- the elements of an array stand from a place on
pub record Elements (s : Bytes) (j : ℕ) (o : Option (List Json)) : Type 0 where
  pub units : Elems
  pub elems : Elems
  pub rest : Bytes
  pub read : loop (item (value 13)) (drop j s) ≡ got units rest
  pub are : decoded_elems units ≡ some elems
  pub is : o ≡ some (elems_of elems)

-- an array: where its first element stands, if it has one
abbrev pub Array : Type 0
Array = Result (Maybe ℕ) NoCard

abbrev pub OpenedAs : Bytes → Array → Option (List Json) → Type 0
OpenedAs s (Ok (Some j)) o = Elements s j o
OpenedAs s (Ok None) o = o ≡ some []
OpenedAs s (Err e) o = o ≡ none

abbrev pub ArrayIn : ℕ → Array → Type 0
ArrayIn n (Ok (Some j)) = j ≤ n
ArrayIn n (Ok None) = Unit {0}
ArrayIn n (Err e) = Unit {0}

abbrev pub OpensAs : Bytes → ℕ → Array → Type 0
OpensAs s at r = (v : Json) → json_at 14 s at ≡ some v → OpenedAs s r (as_array v)

-- components stand from a place on
pub record Lists (s : Bytes) (at : ℕ) (cs : List Component) : Type 0 where
  pub units : Elems
  pub elems : Elems
  pub rest : Bytes
  pub read : loop (item (value 13)) (drop at s) ≡ got units rest
  pub are : decoded_elems units ≡ some elems
  pub is : each component_of (elems_of elems) ≡ some cs

-- ---- values by kind

-- the values of kind i, empty ones gone: a part of `by_kind`
unfoldable pub values_of : ℕ → List Component → List Bytes
values_of i cs = flat (map (of_kind i) cs)

-- a mark for each kind that has a value
abbrev pub Marked : List ℕ → List Component → Type 0
Marked m cs = (i : ℕ) → i < part_count → eqb (get_or m i 0) 0 ≡ empty (values_of i cs)

pub record Marks (s : Bytes) (at kind : ℕ) (m after : List ℕ) : Type 0 where
  pub long : length after ≡ length m
  pub is : (x : Bytes) → decoded_at s at ≡ some x → after ≡ pick (filled x) (set m kind 1) m

abbrev pub CheckedAs : List ℕ → ℕ → Option (List Component) → Type 0
CheckedAs m r none = r ≡ 0
CheckedAs m r (some cs) = (0 < r) × Marked m cs

-- 12 (0), or marks of the kinds that are there
abbrev pub ChecksFrom : Bytes → ℕ → List ℕ → ℕ → Type 0
ChecksFrom s at m r = (us es : Elems) (t : Bytes) → loop (item (value 13)) (drop at s) ≡ got us t → decoded_elems us ≡ some es
    → CheckedAs m r (each component_of (elems_of es))

-- ---- values one after the other, with a mark between them

-- the flag says that one stands before them
unfoldable pub list_from : ℕ → Bool → List Bytes → Bytes
list_from mark b [] = []
list_from mark b (w ∷ ws) = pick b (mark ∷ w) w ++ list_from mark true ws

-- what is written of values: their bytes, whether one has been written by then, and whether a line can carry them
pub record Says (style mark : ℕ) (begun : Bool) (vs : List Bytes) (text : Bytes) (b c : Bool) : Type 0 where
  pub is-text : text ≡ list_from mark begun (map (written_in style) vs)
  pub is-begun : b ≡ begun || not (empty vs)
  pub is_carried : c ≡ all (all_stand_in style) vs

abbrev pub value_if : Bool → Bytes → List Bytes
value_if wanted x = pick (wanted && filled x) (x ∷ []) []

-- some bytes are written; where the string stands for bytes, these
pub record InksOne (s : Bytes) (at style mark : ℕ) (wanted begun : Bool) (room : Bytes) (column : ℕ) (r : Inked) (after : Bytes) : Type 0 where
  pub text : Bytes
  pub pens : Pens room column text (record { bytes = r.bytes; column = r.column }) after
  pub says : (x : Bytes) → decoded_at s at ≡ some x → Says style mark begun (value_if wanted x) text r.begun r.carried

-- some bytes are written; where components stand there, the values of that kind
pub record InksKind (s : Bytes) (at style mark kind : ℕ) (begun : Bool) (room : Bytes) (column : ℕ) (r : Inked) (after : Bytes) : Type 0 where
  pub text : Bytes
  pub pens : Pens room column text (record { bytes = r.bytes; column = r.column }) after
  pub says : (cs : List Component) → Lists s at cs → Says style mark begun (values_of kind cs) text r.begun r.carried

-- ---- rows: the kind of a component and the place of its value

pub record Rows (s : Bytes) (kinds values : List ℕ) (n : ℕ) (cs : List Component) : Type 0 where
  pub count : length cs ≡ n
  pub row : (i : ℕ) → i < n → (x : Bytes) × (get_or cs i (component 0 []) ≡ component (get_or kinds i 0) x) × (decoded_at s (get_or values i 0) ≡ some x)

-- n rows, where n is not over 16, are the components that stand there
abbrev pub RowsFrom : Bytes → ℕ → List ℕ → List ℕ → ℕ → Type 0
RowsFrom s at kinds values n = n ≤ 16 → (cs : List Component) → Lists s at cs → Rows s kinds values n cs

-- a row after n others; r, where it is not over 16, is how many there are then
pub record AddsRow (kinds values : List ℕ) (n kind value : ℕ) (kinds' values' : List ℕ) (r : ℕ) : Type 0 where
  pub long-kinds : length kinds' ≡ length kinds
  pub long-values : length values' ≡ length values
  pub some-row : 0 < r
  pub added : r ≤ 16 → (n < 16) × (r ≡ n + 1) × (kinds' ≡ set kinds n kind) × (values' ≡ set values n value)
