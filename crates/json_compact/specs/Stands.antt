-- Parts of a text that are written as they stand.
use Rattle.std.specs.Prelude.{◌≡◌, Bool, true, false, ◌++◌, ℕ, ◌≤◌, ◌<◌, length, drop, get_or}
use Rattle.text.specs.Bytes.{Bytes}
use Rattle.json_compact.specs.Squeezed.{squeezed}

-- where none is said to be there, no byte from a place to another is a DEL
abbrev pub Deletes : Bytes → ℕ → ℕ → Bool → Type 0
Deletes s from to true = Unit {0}
Deletes s from to false = (k : ℕ) → from ≤ k → k < to → get_or s k 0 ≡ 127 → ⊥

-- what stands from a place to another is written as it stands, and then what is written from there
pub record Stands (s : Bytes) (at to : ℕ) : Type 0 where
  pub from : at ≤ to
  pub within : to ≤ length s
  pub text : Bytes
  pub is : drop at s ≡ text ++ drop to s
  pub so : squeezed (drop at s) ≡ text ++ squeezed (drop to s)
