-- A result and the lent output.
use Rattle.std.specs.Prelude.{[], ◌∷◌, ℕ, length, ltb}
use Rattle.text.specs.Bytes.{Bytes}
use Rattle.convert.specs.Answers.{Answer, yes, seek, given}

-- a result, or 14 where it is longer than the lent output
abbrev pub fit_lent : (lent : ℕ) → Bytes → Answer
fit_lent lent r = seek (given 14 (ltb lent (length r)) ∷ []) (yes r)
