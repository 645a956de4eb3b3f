-- What the code answers for an answer of 01.
use Rattle.std.specs.Prelude.{◌≡◌, ℕ, length, Result, Ok, Err}
use Rattle.text.specs.Bytes.{Bytes}
use Rattle.convert.specs.Answers.{Answer, no, yes}
use Rattle.convert.specs.Served.{left_by}
use Rattle.served.specs.declared.Refusal.{Refusal}
use Rattle.served.specs.declared.Unmade.{Unmade}
use Rattle.served.specs.declared.Unmade.TheVariants.{Refused, Full}

-- how many bytes were written, or a refusal
abbrev pub Outcome : Type 0
Outcome = Result ℕ Refusal

abbrev pub refused : ℕ → ℕ → Outcome
refused n p = Err (record { number = n; place = p })

-- how long the text at the front of a room is, or why there is none
abbrev pub Made : Type 0
Made = Result ℕ Unmade

abbrev pub made_refused : ℕ → ℕ → Made
made_refused n p = Err (Refused (record { number = n; place = p }))

abbrev pub made_full : Made
made_full = Err Full

-- a result's length; a refusal's number and place, with nothing written
abbrev pub outcome_of : Answer → Outcome
outcome_of (no n p) = refused n p
outcome_of (yes bs) = Ok (length bs)

-- the outcome and the lent output afterwards are those of an answer: every service promises both
pub record Serves (out : Bytes) (a : Answer) (r : Outcome) (after : Bytes) : Type 0 where
  pub said : r ≡ outcome_of a
  pub left : after ≡ left_by out a
