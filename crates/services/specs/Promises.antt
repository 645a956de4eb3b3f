-- The two services' contracts: `card_to_json` and `json_to_card` cite these definitions in their `ensures`. Here they are said of any functions as well; and what
-- the caller of such a function sees.
use Rattle.std.specs.Prelude.{◌≡◌, ℕ, length, take, Ok, Err}
use Rattle.text.specs.Bytes.{Bytes}
use Rattle.convert.specs.Answers.{Answer, no, yes, card_to_json, json_to_card}
use Rattle.convert.specs.Served.{Served}
use Rattle.served.specs.Served.{Outcome, Serves}

-- ---- the contracts

-- `card_to_json::card_to_json`: the outcome r and the lent output afterwards, for every stem, number, card and output
abbrev pub CardGives : (stem : Bytes) (number : ℕ) (card out : Bytes) → (r : Outcome) (after : Bytes) → Type 0
CardGives stem n card out r after = Serves out (card_to_json stem n (length out) card) r after

-- `json_to_card::json_to_card`
abbrev pub JsonGives : (json out : Bytes) → (r : Outcome) (after : Bytes) → Type 0
JsonGives json out r after = Serves out (json_to_card (length out) json) r after

-- ---- functions that keep them

-- what a call gives: its outcome, and the lent output afterwards
pub record Call : Type 0 where
  pub outcome : Outcome
  pub output : Bytes

-- a function by what it gives for its arguments; the last is the lent output
abbrev pub CardService : Type 0
CardService = (stem : Bytes) (number : ℕ) (card out : Bytes) → Call

abbrev pub JsonService : Type 0
JsonService = (json out : Bytes) → Call

abbrev pub CardPromises : CardService → Type 0
CardPromises f = (stem : Bytes) (number : ℕ) (card out : Bytes) → CardGives stem number card out (f stem number card out).outcome (f stem number card out).output

abbrev pub JsonPromises : JsonService → Type 0
JsonPromises g = (json out : Bytes) → JsonGives json out (g json out).outcome (g json out).output

-- ---- what the caller sees

-- number, place, length and every byte of the lent output
abbrev pub shown : Outcome → (output : Bytes) → Served
shown (Ok n) out = record { number = 0; place = 0; written = n; output = out }
shown (Err r) out = record { number = r.number; place = r.place; written = 0; output = out }

abbrev pub seen : Call → Served
seen c = shown c.outcome c.output

-- the result, read from the front of the lent output
abbrev pub read_from : Outcome → (output : Bytes) → Answer
read_from (Ok n) out = yes (take n out)
read_from (Err r) out = no r.number r.place

abbrev pub answered : Call → Answer
answered c = read_from c.outcome c.output

-- an output for every length: whatever bytes stand in it
pub record Lends (room : ℕ → Bytes) : Type 0 where
  pub long : (n : ℕ) → length (room n) ≡ n
