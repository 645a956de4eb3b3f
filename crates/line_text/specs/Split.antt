-- What a scanner of a split TEXT answers.
use Rattle.std.specs.Prelude.{◌≡◌, [], ◌∷◌, ℕ, ◌+◌, ◌-◌, ◌≤◌, length, take, drop, get_or, eqb, leb, ltb}
use Prim.Native.Char.{code}
use Rattle.text.specs.Choice.{pick}
use Rattle.text.specs.Bytes.{Bytes}
use Rattle.line.specs.Text.{split_text}

-- where the byte at i, or the escape that begins there, ends
unfoldable pub char_end : Bytes → ℕ → ℕ
char_end s i = pick (leb (length s) (i + 1)) (i + 1) (pick (eqb (get_or s i 0) (code "\\")) (i + 2) (i + 1))

-- The part that begins at `at` ends at e. Where a byte stands at e, it is the separator, and the other parts follow it.
pub record PartEnds (d : ℕ) (s : Bytes) (at e : ℕ) : Type 0 where
  pub from : at ≤ e
  pub within : at ≤ length s → e ≤ length s
  pub parts : split_text d (drop at s) ≡ take (e - at) (drop at s) ∷ pick (ltb e (length s)) (split_text d (drop (e + 1) s)) []

-- What stands from `at` to e belongs to the part that begins there, wherever that ends.
pub record Joined (d : ℕ) (s : Bytes) (at e : ℕ) : Type 0 where
  pub from : at ≤ e
  pub within : at ≤ length s → e ≤ length s
  pub on : (f : ℕ) → PartEnds d s e f → PartEnds d s at f
