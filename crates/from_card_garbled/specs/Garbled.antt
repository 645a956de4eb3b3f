-- Refusal 4 over the lines that a scratch and a table of their starts hold.
use Rattle.std.specs.Prelude.{◌≡◌, List, ℕ, Option, Some, None}
use Rattle.std.proofs.Math.Option.{Option as Maybe, none, some}
use Rattle.text.specs.Choice.{with-some}
use Rattle.text.specs.Bytes.{Bytes}
use Rattle.line_unfold.specs.Table.{Laid}
use Rattle.convert.specs.Answers.{garbled, first_from}

-- a line's number, where there is one
abbrev pub found : Maybe ℕ → Option ℕ
found none = None
found (some i) = Some i

-- the same, 0 for none
abbrev pub place_of : Maybe ℕ → ℕ
place_of o = with-some o (λ i. i) 0

-- what is said of every list of lines laid there
abbrev pub OfLines : Bytes → List ℕ → ℕ → (List Bytes → Type 0) → Type 0
OfLines scratch starts n P = (raw : List Bytes) → Laid raw n scratch starts → P raw

abbrev pub TellsGarbled : Bytes → List ℕ → ℕ → Option ℕ → Type 0
TellsGarbled scratch starts n r = OfLines scratch starts n (λ raw. r ≡ found (first_from 1 garbled raw))

abbrev pub FirstGarbled : Bytes → List ℕ → ℕ → ℕ → Type 0
FirstGarbled scratch starts n r = OfLines scratch starts n (λ raw. r ≡ place_of (first_from 1 garbled raw))
