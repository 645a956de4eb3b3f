-- Bytes that fill a part.
use Rattle.std.specs.Prelude.{Bool, ◌&&◌, not, ℕ, eqb}

-- neither of two separators
abbrev pub other_than : ℕ → ℕ → ℕ → Bool
other_than d e c = not (eqb c d) && not (eqb c e)
