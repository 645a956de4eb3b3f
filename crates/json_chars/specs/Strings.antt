-- Strings read on from a place: what the contracts of this crate cite.
use Rattle.std.specs.Prelude.{◌≡◌, ℕ, ◌≤◌, ◌<◌, drop, get_or}
use Prim.Native.Char.{code}
use Rattle.text.specs.Places.{Read}
use Rattle.text.specs.Bytes.{Bytes}
use Rattle.text.specs.Places.{Gives}
use Rattle.json_text.specs.Syntax.{characters}

-- a string read from `i` on ends where it ends read from `at` on
abbrev pub ToEnd : Bytes → ℕ → ℕ → Type 0
ToEnd s at i = (r : Read) → Gives s i (characters (drop i s)) r → Gives s at (characters (drop at s)) r

-- no byte from a place to another is a quote, a backslash or a control
abbrev pub Unmarked : Bytes → ℕ → ℕ → Type 0
Unmarked s from to = (k : ℕ) → from ≤ k → k < to → (32 ≤ get_or s k 0) × (get_or s k 0 ≡ code "\"" → ⊥) × (get_or s k 0 ≡ code "\\" → ⊥)
