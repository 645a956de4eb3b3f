-- A number that a part of an escape stands for, and where it ends, said by a reader of lists.
use Rattle.std.specs.Prelude.{◌≡◌, ℕ, ◌≤◌, ◌<◌, length, drop, Result, Ok, Err}
use Rattle.text.specs.Bytes.{Bytes}
use Rattle.text.specs.Reader.{Got, got, bad}
use Rattle.json_escapes.specs.declared.Value.{Value}

abbrev pub value_of : Bytes → Result Value ℕ → Got ℕ
value_of s (Ok v) = got v.number (drop v.next s)
value_of s (Err b) = bad (drop b s)

-- the number is below k, and the places lie from `at` to the end
abbrev pub ValueIn : ℕ → ℕ → ℕ → Result Value ℕ → Type 0
ValueIn at n k (Ok v) = (at < v.next) × (v.next ≤ n) × (v.number < k)
ValueIn at n k (Err b) = (at ≤ b) × (b ≤ n)

pub record Tells (s : Bytes) (at k : ℕ) (want : Got ℕ) (r : Result Value ℕ) : Type 0 where
  pub is : want ≡ value_of s r
  pub within : ValueIn at (length s) k r
