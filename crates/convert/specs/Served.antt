-- What a caller sees of an answer: one definition for every service that writes into a lent output.
use Rattle.std.specs.Prelude.{◌++◌, ℕ, length, drop}
use Rattle.text.specs.Bytes.{Bytes}
use Rattle.convert.specs.Answers.{Answer, no, yes}

pub record Served : Type 0 where
  pub number : ℕ  -- 01's refusal number, 0 on success
  pub place : ℕ  -- of a refusal, else 0
  pub written : ℕ  -- the result's length; 0 on a refusal
  pub output : Bytes  -- the lent output afterwards

-- The output afterwards. "Success leaves output beyond its length untouched", and so does a refusal all of it. A result is no longer than
-- the lent output (14), so it stands there whole.
abbrev pub left_by : (lent : Bytes) → Answer → Bytes
left_by out (no n p) = out
left_by out (yes bs) = bs ++ drop (length bs) out

-- "A refusal returns its number, length 0 and a place"
abbrev pub served : (lent : Bytes) → Answer → Served
served out (no n p) = record { number = n; place = p; written = 0; output = left_by out (no n p) }
served out (yes bs) = record { number = 0; place = 0; written = length bs; output = left_by out (yes bs) }
