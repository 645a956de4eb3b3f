-- Lines of a card as they are written, and what a part of a card answers.
use Rattle.std.specs.Prelude.{◌≡◌, Bool, true, ◌&&◌, List, [], ◌∷◌, ◌++◌, map, ℕ, ◌≤◌, length, Err, Ok, Result}
use Rattle.to_card_pen.specs.Refusal.{no_card}
use Rattle.std.proofs.Math.Option.{Option, none, some}
use Rattle.text.specs.Choice.{both}
use Rattle.text.specs.Bytes.{Bytes, flat}
use Rattle.line.specs.Grammar.{Line}
use Rattle.line.specs.Write.{fold, fold_from, write_line}
use Rattle.json_strings.specs.Decoded.{decoded_at}
use Rattle.line_pen.specs.Pen.{Fills}
use Rattle.to_card_pen.specs.Styles.{written_in, all_stand_in}
use Rattle.to_card_pen.specs.declared.NoCard.{NoCard}
use Rattle.to_card_lines.specs.declared.Lines.{Lines}
use Rattle.to_card_lines.specs.declared.Penned.{Penned}

-- a line folded, with its end
unfoldable pub line_bytes : Line → Bytes
line_bytes l = fold (write_line l) ++ (13 ∷ 10 ∷ [])

unfoldable pub lines_bytes : List Line → Bytes
lines_bytes ls = flat (map line_bytes ls)

-- what a part of a card answers: 12, or its lines
abbrev pub Laid : Type 0
Laid = Result Lines NoCard

abbrev pub laid : ℕ → ℕ → Bool → Laid
laid n k c = Ok (record { bytes = n; lines = k; carries = c })

-- what a part of a card comes to: its lines, and whether lines can carry what it says (13 otherwise)
pub record Part : Type 0 where
  pub lines : List Line
  pub carried : Bool

-- 12 where there is no part; else its lines, as far as there is room, how many they are, and whether they can carry it
abbrev pub PartAs : Bytes → Laid → Bytes → Option Part → Type 0
PartAs room r after none = r ≡ Err no_card
PartAs room r after (some p) = (n : ℕ) × (r ≡ laid n (length p.lines) p.carried) × Fills room (lines_bytes p.lines) n after

-- what is written is in the room
abbrev pub LinesIn : ℕ → Laid → Type 0
LinesIn room (Ok l) = l.bytes ≤ room
LinesIn room (Err e) = Unit {0}

-- Some line is written, its end included, and whether a line can carry its string is told; where the string at the place stands for bytes, it is these.
pub record StringLine (s : Bytes) (at style : ℕ) (head room : Bytes) (r : Penned) (after : Bytes) : Type 0 where
  pub text : Bytes
  pub is : (x : Bytes) → decoded_at s at ≡ some x → text ≡ x
  pub fills : Fills room (fold_from 0 (head ++ written_in style text) ++ (13 ∷ 10 ∷ [])) r.bytes after
  pub carried : r.carried ≡ all_stand_in style text

-- ---- parts one after the other

abbrev pub no_lines : Part
no_lines = record { lines = []; carried = true }

abbrev pub join_parts : Part → Part → Part
join_parts p q = record { lines = p.lines ++ q.lines; carried = p.carried && q.carried }

-- the parts of all, or none where one has none
unfoldable pub parts_of : {A : Type 0} → (A → Option Part) → List A → Option Part
parts_of f [] = some no_lines
parts_of f (x ∷ xs) = both join_parts (f x) (parts_of f xs)
