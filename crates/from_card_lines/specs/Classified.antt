-- The lines of a card that passed refusals 1 to 5, unfolded into a scratch, with the number of each line's class in a table.
use Rattle.std.specs.Prelude.{◌≡◌, List, [], ◌∷◌, map, ℕ, ◌≤◌, length, take}
use Rattle.std.proofs.Math.Option.{some}
use Rattle.text.specs.Bytes.{Bytes, each}
use Rattle.line.specs.Grammar.{read_line}
use Rattle.line_unfold.specs.Table.{Laid}
use Rattle.convert.specs.Classify.{Seen, Classed, classify}
use Rattle.convert_entry.specs.Rows.{code_of}
use Rattle.from_card_lines.specs.declared.ClassedLines.{ClassedLines}

-- each line's class is what the definition gives it after something seen before
abbrev pub Turned : List Classed → Type 0
Turned [] = Unit {0}
Turned (c ∷ cs) = ((seen : Seen) × (c.class ≡ classify seen c.line)) × Turned cs

-- the lines of the scratch are those of cs, n of them, and the table `codes` has the number of each one's class
pub record Classified (scratch starts codes : List ℕ) (n : ℕ) (cs : List Classed) : Type 0 where
  pub raw : List Bytes
  pub laid : Laid raw n scratch starts
  pub read : each read_line raw ≡ some (map (λ (c : Classed). c.line) cs)
  pub wide : n ≤ length codes
  pub numbers : take n codes ≡ map (λ (c : Classed). code_of c.class) cs
  pub turns : Turned cs

-- a definition about a card's classified lines, said of the struct that holds them
abbrev pub of_lines {ℓ} : {A : Type ℓ} → (List ℕ → List ℕ → List ℕ → ℕ → A) → ClassedLines → A
of_lines f l = f l.scratch.now l.starts.now l.codes.now l.count
