-- A stream's state as the seven numbers that a caller in C keeps, all 0 where it is fresh.
use Rattle.std.specs.Prelude.{Bool, true, false, not, ◌||◌, List, [], ◌∷◌, ℕ, length, get_or, eqb}
use Rattle.text.specs.Choice.{pick}
use Rattle.stream_reader.specs.declared.State.{State}

-- a flag as a number
abbrev pub bit : Bool → ℕ
bit true = 1
bit false = 0

-- the last three flags are turned round, so that the fresh state is all 0
abbrev pub row_of : State → List ℕ
row_of s = s.number ∷ bit s.inside ∷ s.len ∷ s.col ∷ bit (not s.begins) ∷ bit (not s.ends) ∷ bit (not s.blank) ∷ []

-- out of its ranges
abbrev pub no_state : State
no_state = record { number = 1000001; inside = false; len = 0; col = 0; begins = true; ends = true; blank = true }

-- what the numbers stand for: a flag other than 0 and 1 is 0; what are not seven is no state (16)
unfoldable pub state_of : List ℕ → State
state_of row =
    let held : State =
    record {
      number = get_or row 0 0;
      inside = eqb (get_or row 1 0) 1;
      len = get_or row 2 0;
      col = get_or row 3 0;
      begins = not (eqb (get_or row 4 0) 1);
      ends = not (eqb (get_or row 5 0) 1);
      blank = not (eqb (get_or row 6 0) 1);
    } in
    pick (eqb (length row) 7) held no_state

-- The numbers after a call that told n and left the state s. 01: "Refusal 16 or 15 .. changes no state": every number is as it was, however many there are
-- and whatever the flags; after every other call they are those of the state.
unfoldable pub row_after : (row : List ℕ) (n : ℕ) → State → List ℕ
row_after row n s = pick (eqb n 15 || eqb n 16) row (row_of s)
