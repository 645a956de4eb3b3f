-- FN and N: the member `name` judged (12), its lines, and whether lines can carry it (13).
use Rattle.std.specs.Prelude.{◌≡◌, Bool, true, false, ◌&&◌, ◌||◌, not, List, [], ◌∷◌, ◌++◌, ℕ, ◌≤◌, length, Err, Result, Ok, Option as Maybe, Some, None}
use Rattle.to_card_name.specs.declared.Listed.{Listed}
use Rattle.to_card_pen.specs.declared.NoCard.{NoCard}
use Rattle.std.proofs.Math.Option.{Option, none, some, map}
use Rattle.text.specs.Choice.{with-some, is_some, both, chain, provided}
use Rattle.text.specs.Bytes.{Bytes, ascii, all, each}
use Rattle.json_text.specs.Tree.{Json, as_string, as_array}
use Rattle.line.specs.Grammar.{Line}
use Rattle.line.specs.Text.{write_text}
use Rattle.line.specs.Write.{fold_from}
use Rattle.json_index.specs.Index.{Slot}
use Rattle.line_pen.specs.Pen.{Fills}
use Rattle.convert.specs.Table.{name_row}
use Rattle.convert.specs.Model.{has_parts}
use Rattle.convert.specs.Value.{write_name}
use Rattle.convert.specs.FromJson.{Component, component_of, by_kind, Name, nameless, is_false, name_from}
use Rattle.convert.specs.Carry.{carried_text, apart, apart_parts}
use Rattle.convert.specs.Property.{property}
use Rattle.convert.specs.ToCard.{line_where, derived_line}
use Rattle.to_card_value.specs.Values.{StringIs}
use Rattle.to_card_lines.specs.declared.Penned.{Penned}
use Rattle.to_card_lines.specs.Lines.{line_bytes, lines_bytes, Part, PartAs, Laid}
use Rattle.to_card_parts.specs.Parts.{Lists, values_of, Marked, RowsFrom}
use Rattle.to_card_order.specs.Order.{order_from, carried_order}
use Rattle.to_card_name.specs.declared.Counted.{Counted}
use Rattle.to_card_name.specs.declared.Named.{Named}

-- ---- the members of name, as `name_from` reads them

abbrev pub ordered_in : Option Json → Option Bool
ordered_in o = with-some o is_false (some true)

abbrev pub full_in : Option Json → Option (Option Bytes)
full_in o = with-some o (λ v. map some (as_string v)) (some none)

abbrev pub components_in : Option Json → Option (List Component)
components_in o = with-some o (λ v. chain (as_array v) (each component_of)) (some [])

abbrev pub name_of : Option Bytes → List Component → Name
name_of f cs = record { full = f; parts = by_kind cs }

-- ---- what a name comes to

-- FN: the full name, or one made of the components
abbrev pub fn_line : Name → Line
fn_line n = with-some n.full (λ v. property (ascii "fn") [] (write_text false v)) (derived_line n.parts)

abbrev pub n_line : List (List Bytes) → Line
n_line ps = property (ascii "n") [] (write_name ps)

unfoldable pub parts_carried : List (List Bytes) → Bool
parts_carried ps = all (all carried_text) ps && apart_parts name_row ps

unfoldable pub name_lines : Name → Part
name_lines n = record { lines = fn_line n ∷ line_where (has_parts n.parts) (n_line n.parts); carried = with-some n.full carried_text true && parts_carried n.parts }

-- ---- contracts

abbrev pub TellsUnordered : Bytes → ℕ → Bool → Type 0
TellsUnordered s slot r = (o : Option Json) → Slot 14 s slot o → r ≡ is_some (ordered_in o)

-- the full name: where its string stands, if it is there
abbrev pub Full : Type 0
Full = Result (Maybe ℕ) NoCard

abbrev pub FullAs : Bytes → Full → Option (Option Bytes) → Type 0
FullAs s (Ok (Some q)) x = (y : Bytes) × (x ≡ some (some y)) × StringIs s q (some y)
FullAs s (Ok None) x = x ≡ some none
FullAs s (Err e) x = x ≡ none

abbrev pub TellsFull : Bytes → ℕ → Full → Type 0
TellsFull s slot r = (o : Option Json) → Slot 14 s slot o → FullAs s r (full_in o)

-- the components: where the first stands, and how many rows they have, if there are any
abbrev pub Listing : Type 0
Listing = Result (Maybe Listed) NoCard

abbrev pub rows_at : ℕ → ℕ → Listing
rows_at j n = Ok (Some (record { first = j; rows = n }))

-- the rows are those of the components
abbrev pub ListedIn : Bytes → List ℕ → List ℕ → Listing → Type 0
ListedIn s kinds values (Ok (Some l)) = (l.first ≤ length s) × RowsFrom s l.first kinds values l.rows
ListedIn s kinds values (Ok None) = Unit {0}
ListedIn s kinds values (Err e) = Unit {0}

abbrev pub ListedAs : Bytes → List ℕ → Listing → Option (List Component) → Type 0
ListedAs s m (Ok (Some l)) o = (cs : List Component) × (o ≡ some cs) × Lists s l.first cs × Marked m cs
ListedAs s m (Ok None) o = o ≡ some []
ListedAs s m (Err e) o = o ≡ none

abbrev pub ListsAs : Bytes → ℕ → List ℕ → Listing → Type 0
ListsAs s slot m r = (o : Option Json) → Slot 14 s slot o → ListedAs s m r (components_in o)

abbrev pub TellsParts : List ℕ → Bool → Type 0
TellsParts m r = (cs : List Component) → Marked m cs → r ≡ has_parts (by_kind cs)

abbrev pub TellsApart : Bytes → ℕ → List ℕ → ℕ → ℕ → Bool → Type 0
TellsApart s at m one other r = (cs : List Component) → Lists s at cs → Marked m cs → r ≡ apart (values_of one cs) (values_of other cs)

-- some line is written, its end included; where components stand there and their kinds are marked, that of their values
pub record OrderLine (s : Bytes) (at : ℕ) (m : List ℕ) (style mark : ℕ) (head order room : Bytes) (r : Penned) (after : Bytes) : Type 0 where
  pub text : Bytes
  pub fills : Fills room (fold_from 0 (head ++ text) ++ (13 ∷ 10 ∷ [])) r.bytes after
  pub says : (cs : List Component) → Lists s at cs → Marked m cs
      → (text ≡ order_from style mark (by_kind cs) false order) × (r.carried ≡ carried_order style (by_kind cs) order)

pub record FnLine (s : Bytes) (full at : ℕ) (m : List ℕ) (room : Bytes) (r : Penned) (after : Bytes) : Type 0 where
  pub text : Bytes
  pub fills : Fills room text r.bytes after
  pub says : (f : Option Bytes) → StringIs s full f → (cs : List Component) → Lists s at cs → Marked m cs
      → (text ≡ line_bytes (fn_line (name_of f cs))) × (r.carried ≡ with-some f carried_text true)

pub record NLine (s : Bytes) (at : ℕ) (m : List ℕ) (room : Bytes) (r : Counted) (after : Bytes) : Type 0 where
  pub text : Bytes
  pub fills : Fills room text r.bytes after
  pub few : r.lines ≤ 1
  pub says : (cs : List Component) → Lists s at cs → Marked m cs
      → (text ≡ lines_bytes (line_where (has_parts (by_kind cs)) (n_line (by_kind cs)))) × (r.lines ≡ length (line_where (has_parts (by_kind cs)) (n_line (by_kind cs)))) × (r.carried ≡ parts_carried (by_kind cs))

abbrev pub PutsAlone : Bytes → ℕ → Bytes → Laid → Bytes → Type 0
PutsAlone s full room r after = (f : Option Bytes) → StringIs s full f → PartAs room r after (some (name_lines (name_of f [])))

abbrev pub PutsBoth : Bytes → ℕ → ℕ → List ℕ → Bytes → Laid → Bytes → Type 0
PutsBoth s full at m room r after = (f : Option Bytes) → StringIs s full f → (cs : List Component) → Lists s at cs → Marked m cs → PartAs room r after (some (name_lines (name_of f cs)))

-- the full name f is known: the components in a slot
abbrev pub PutsList : Bytes → ℕ → ℕ → Bytes → Laid → Bytes → Type 0
PutsList s full slot room r after = (f : Option Bytes) → StringIs s full f → (o : Option Json) → Slot 14 s slot o
    → PartAs room r after (map (λ cs. name_lines (name_of f cs)) (components_in o))

-- by the slots of full, components and isOrdered, and that of any other member
unfoldable pub name_from_slots : Option Json → Option Json → Option Json → Option Json → Option Name
name_from_slots f c i other = provided (not (is_some other) && (is_some f || is_some c)) (chain (ordered_in i) λ ordered. both name_of (full_in f) (components_in c))

abbrev pub PutsSlots : Bytes → ℕ → ℕ → ℕ → ℕ → Bytes → Laid → Bytes → Type 0
PutsSlots s full components ordered other room r after = (f c i x : Option Json) → Slot 14 s full f → Slot 14 s components c → Slot 14 s ordered i → Slot 14 s other x
    → PartAs room r after (map name_lines (name_from_slots f c i x))

-- the name that the value in the slot of `name` says; nameless where there is none
abbrev pub name_given : Option Json → Option Name
name_given o = with-some o name_from (some nameless)

-- 12, or FN and N of the value in the slot of `name`
abbrev pub PutsName : Bytes → ℕ → Bytes → Laid → Bytes → Type 0
PutsName s slot room r after = (o : Option Json) → Slot 15 s slot o → PartAs room r after (map name_lines (name_given o))

abbrev pub as_lines : Result Named NoCard → Laid
as_lines (Ok n) = Ok n.lines
as_lines (Err e) = Err e

-- whether the name in a slot says a full name
abbrev pub FullGiven : Bytes → ℕ → Bool → Type 0
FullGiven s slot b = (o : Option Json) → Slot 15 s slot o → (n : Name) → name_given o ≡ some n → is_some n.full ≡ b

abbrev pub SaysFull : Bytes → ℕ → Result Named NoCard → Type 0
SaysFull s slot (Ok n) = FullGiven s slot n.full
SaysFull s slot (Err e) = Unit {0}
