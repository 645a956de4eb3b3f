-- A card's unfolded lines in a scratch, or why there are none.
use Rattle.std.specs.Prelude.{◌≡◌, List, ℕ, ◌≤◌, ◌<◌, length, Result, Ok, Err}
use Rattle.std.proofs.Math.Option.{some}
use Rattle.text.specs.Bytes.{Bytes}
use Rattle.line_unfold.specs.Table.{Laid}
use Rattle.convert.specs.Answers.{no, raw_lines}
use Rattle.card_to_json.specs.Inner.{inner}
use Rattle.card_to_json.specs.declared.NoLines.{NoLines}
use Rattle.card_to_json.specs.declared.NoLines.TheVariants.{NotOne, TooMany}

-- a card of more lines than that
abbrev pub Many : ℕ → Bytes → Type 0
Many most card = (raw : List Bytes) × (raw_lines card ≡ some raw) × (most < length raw)

-- how many lines, or why there are none
abbrev pub Lines : Type 0
Lines = Result ℕ NoLines

-- refusal 1, or more lines than are taken, else the lines stand in the scratch
abbrev pub Lays : ℕ → Bytes → Lines → Bytes → List ℕ → Type 0
Lays most card (Ok n) scratch starts = (raw : List Bytes) × (raw_lines card ≡ some raw) × Laid raw n scratch starts × (n ≤ most)
Lays most card (Err NotOne) scratch starts = (stem : Bytes) (number : ℕ) → inner stem number card ≡ no 1 0
Lays most card (Err TooMany) scratch starts = Many most card
