-- Whether code may read a table of places.
use Rattle.std.specs.Prelude.{Bool, true, false, List, ℕ, ◌≤◌}
use Rattle.text.specs.Bytes.{Bytes}
use Rattle.line_table.specs.Table.{Sound}

-- the part from a to e is within n bytes, or not
abbrev pub TellsSpan : ℕ → ℕ → ℕ → Bool → Type 0
TellsSpan n a e true = (a ≤ e) × (e ≤ n)
TellsSpan n a e false = a ≤ e → e ≤ n → ⊥

abbrev pub TellsSound : Bytes → List ℕ → Bool → Type 0
TellsSound b t true = Sound b t
TellsSound b t false = Sound b t → ⊥
