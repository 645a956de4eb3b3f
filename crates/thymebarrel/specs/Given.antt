-- What the functions inside give. What the C calls promise is `c_calls/specs/Promise`.
use Rattle.std.specs.Prelude.{◌≡◌, ◌||◌, List, ℕ, ◌+◌, length, eqb, Ok, Err}
use Rattle.text.specs.Choice.{pick}
use Rattle.json_access.specs.declared.Part.{Part}
use Rattle.served.specs.Served.{Outcome}
use Rattle.stream_reader.specs.declared.State.{State}
use Rattle.stream_cards.specs.declared.Said.{Said}
use Rattle.stream_cards.specs.declared.Said.TheVariants.{More, Answer}
use Rattle.stream_cards.specs.declared.Answered.{Answered}
use Rattle.c_calls.specs.Numbers.{row_of}
use Rattle.c_calls.specs.Promise.{Told, told}

-- a part of a text by where it begins and how long it is
abbrev pub part_from : (start length : ℕ) → Part
part_from a n = record { start = a; end = a + n }

-- what the code's outcome comes to
abbrev pub outcome_told : Outcome → Told
outcome_told (Ok n) = told 0 0 n
outcome_told (Err r) = told r.number r.place 0

-- what a call of the stream says; 255 is more
abbrev pub told_by : Said → Told
told_by More = told 255 0 0
told_by (Answer r) = outcome_told r

-- the state put into the caller's numbers, where they are seven
unfoldable pub row_put : List ℕ → State → List ℕ
row_put row s = pick (eqb (length row) 7) (row_of s) row

-- what is told of the answer r, the bytes consumed, and the numbers afterwards
pub record Tells (r : Answered) (row : List ℕ) (t : Told) (used : ℕ) (row' : List ℕ) : Type 0 where
  pub tells : t ≡ told_by r.said
  pub consumed : used ≡ r.used
  pub numbers : row' ≡ pick (eqb t.number 15 || eqb t.number 16) row (row_put row r.next.state)
