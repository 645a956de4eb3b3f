-- What the scanner of physical lines answers.
use Rattle.std.specs.Prelude.{◌≡◌, Bool, not, ◌∷◌, ◌++◌, ℕ, ◌+◌, ◌-◌, ◌≤◌, ◌<◌, length, take, drop, get_or, eqb, leb}
use Rattle.text.specs.Choice.{pick}
use Rattle.text.specs.Bytes.{Bytes}
use Rattle.text.specs.Reader.{taken}
use Rattle.line.specs.Physical.{physical}
use Rattle.line_frame.specs.declared.Line.{Line}

unfoldable pub not_lf : ℕ → Bool
not_lf c = not (eqb c 10)

-- the first LF from a on is the first from b on
abbrev pub SameLf : Bytes → ℕ → ℕ → Type 0
SameLf s a b = b + length (taken not_lf (drop b s)) ≡ a + length (taken not_lf (drop a s))

-- where the bytes of a line end, whose LF stands at lf
unfoldable pub cr_end : Bytes → ℕ → ℕ → ℕ
cr_end s at lf = pick (leb lf at) lf (pick (eqb (get_or s (lf - 1) 0) 13) (lf - 1) lf)

-- The physical line that begins at `at`. Where another follows, its bytes with their end are a line before any others.
pub record LineAt (s : Bytes) (at : ℕ) (r : Line) : Type 0 where
  pub from : at ≤ r.end
  pub ordered : r.end ≤ r.next
  pub onward : at < r.next
  pub within : r.next ≤ length s
  pub lines : physical (drop at s) ≡ take (r.end - at) (drop at s) ∷ physical (drop r.next s)
  pub whole : r.next < length s → (t : Bytes) → physical (take (r.next - at) (drop at s) ++ t) ≡ take (r.end - at) (drop at s) ∷ physical t
