-- What the steps from a card's lines to its JSON answer.
use Rattle.std.specs.Prelude.{◌≡◌, List, ◌⊎◌, ℕ, ◌-◌, ◌≤◌, ◌<◌, length, take, Ok, Err, Option, Some, None}
use Rattle.text.specs.Bytes.{Bytes}
use Rattle.convert.specs.Classify.{Classed, classed}
use Rattle.convert.specs.Answers.{Answer, no, yes, seek, line_tests, lines_of}
use Rattle.convert.specs.FromCard.{card_of_lines, card_of_classed}
use Rattle.convert.specs.ToJson.{print_json}
use Rattle.from_card_lines.specs.Classified.{Classified}
use Rattle.from_card_garbled.specs.Garbled.{OfLines}
use Rattle.served.specs.declared.Refusal.{Refusal}
use Rattle.from_card_refusals.specs.Judged.{answered}
use Rattle.card_to_json.specs.Inner.{inner, Serves}
use Rattle.card_to_json.specs.Laying.{Many}
use Rattle.served.specs.declared.Unmade.TheVariants.{Refused, Full}
use Rattle.served.specs.Served.{Outcome, Made}

-- refusals 3 (lines) and 4 to 10 in 01's order, and the class of each line where none is given
pub record Tested (scratch starts codes : List ℕ) (n : ℕ) (r : Option Refusal) (raw : List Bytes) : Type 0 where
  pub refusals : (a : Answer) → seek (line_tests raw (lines_of raw)) a ≡ answered r a
  pub classes : r ≡ None → Classified scratch starts codes n (classed (lines_of raw))

abbrev pub Tests : Bytes → List ℕ → List ℕ → ℕ → Option Refusal → Type 0
Tests scratch starts codes n r = OfLines scratch starts n (Tested scratch starts codes n r)

-- the JSON stands whole at the front of the room, or it is longer than the room; or a refusal
abbrev pub Makes : Answer → Bytes → Made → Bytes → Type 0
Makes a room (Ok k) after = (text : Bytes) × (a ≡ yes text) × (take (k - 0) after ≡ text) × (k ≤ length after)
Makes a room (Err (Refused q)) after = a ≡ no q.number q.place
Makes a room (Err Full) after = (text : Bytes) × (a ≡ yes text) × (length room < length text)

abbrev pub MakesJson : Bytes → ℕ → Bytes → List ℕ → List ℕ → ℕ → Bytes → Made → Bytes → Type 0
MakesJson stem number scratch starts codes n room r after =
    (cs : List Classed) → Classified scratch starts codes n cs → Makes (yes (print_json (card_of_classed stem number cs))) room r after

abbrev pub lines_answer : Bytes → ℕ → List Bytes → Answer
lines_answer stem number raw = seek (line_tests raw (lines_of raw)) (yes (print_json (card_of_lines stem number (lines_of raw))))

abbrev pub MakesLines : Bytes → ℕ → Bytes → List ℕ → ℕ → Bytes → Made → Bytes → Type 0
MakesLines stem number scratch starts n room r after = OfLines scratch starts n (λ raw. Makes (lines_answer stem number raw) room r after)

-- of a card, for whose lines the tables may be too short
abbrev pub MakesCard : Bytes → ℕ → Bytes → ℕ → Bytes → Made → Bytes → Type 0
MakesCard stem number card most room (Ok k) after = Makes (inner stem number card) room (Ok k) after
MakesCard stem number card most room (Err (Refused q)) after = Makes (inner stem number card) room (Err (Refused q)) after
MakesCard stem number card most room (Err Full) after = Many most card ⊎ Makes (inner stem number card) room (Err Full) after

-- more lines than scratch holds, or a JSON longer than its room
abbrev pub TooSmall : Bytes → ℕ → Bytes → ℕ → ℕ → Type 0
TooSmall stem number card most room = Many most card ⊎ ((text : Bytes) × (inner stem number card ≡ yes text) × (room < length text))

-- the card is served, or scratch of that size is too small for it and the lent output is as it was
abbrev pub ServesIn : Bytes → ℕ → Bytes → ℕ → ℕ → Bytes → Option Outcome → Bytes → Type 0
ServesIn stem number card most room out (Some r) after = Serves out (inner stem number card) r after
ServesIn stem number card most room out None after = (after ≡ out) × TooSmall stem number card most room
