-- The seven numbers written out, and that a state that was put is the state that is read.
use Prim.Native.Nat.{ℕ}
use mathlib.Core.Path.{◌≡◌, refl}
use mathlib.Core.Bool.{Bool, true, false, not, ◌||◌}
use mathlib.Core.List.{List, [], ◌∷◌}
use lib.ListN.{length, get_or}
use lib.Dec.{eqb}
use borrow.Author.Tests.{eq-eqb, ne_eqb}
use Rattle.text.specs.Bytes.{lower, between}
use Rattle.text.proofs.Cases.{by_bool}
use Rattle.stream_reader.specs.declared.State.{State}
use Rattle.stream_reader.specs.Machine.{start_of, fresh_of, within_of, agrees_of, in_range}
use Rattle.c_calls.specs.Numbers.{bit, row_of, no_state, state_of, row_after}
use Rattle.c_calls.specs.Calls.{numbers_in_range}

-- ---- written out

-- all 0 is the fresh state, and the fresh state is all 0
pub fresh-row : state_of (0 ∷ 0 ∷ 0 ∷ 0 ∷ 0 ∷ 0 ∷ 0 ∷ []) ≡ fresh_of
unfolding state_of
fresh-row = refl

pub fresh-numbers : row_of fresh_of ≡ 0 ∷ 0 ∷ 0 ∷ 0 ∷ 0 ∷ 0 ∷ 0 ∷ []
fresh-numbers = refl

-- the third card is open, after a line of 12 bytes
pub open-numbers : row_of (start_of 3 true 12) ≡ 3 ∷ 1 ∷ 12 ∷ 0 ∷ 0 ∷ 0 ∷ 0 ∷ []
open-numbers = refl

-- one byte of a line outside a card, X: it begins neither BEGIN:VCARD nor END:VCARD, and the line is not empty
pub within-numbers : row_of (within_of fresh_of 88) ≡ 0 ∷ 0 ∷ 1 ∷ 1 ∷ 1 ∷ 1 ∷ 1 ∷ []
unfolding within_of agrees_of lower between
within-numbers = refl

-- a flag other than 0 and 1 counts as 0
pub other-flags : state_of (0 ∷ 2 ∷ 0 ∷ 0 ∷ 3 ∷ 4 ∷ 255 ∷ []) ≡ fresh_of
unfolding state_of
other-flags = refl

-- 15 and 16 leave every row as it was; nothing else does
pub left-by-15 : (row : List ℕ) (s : State) → row_after row 15 s ≡ row
unfolding row_after
left-by-15 row s = refl

pub left-by-16 : (row : List ℕ) (s : State) → row_after row 16 s ≡ row
unfolding row_after
left-by-16 row s = refl

-- a JSON (0), 2, more (255)
pub put-by-answers : (row : List ℕ) (s : State) → (row_after row 0 s ≡ row_of s) × (row_after row 2 s ≡ row_of s) × (row_after row 255 s ≡ row_of s)
unfolding row_after
put-by-answers row s = (refl, refl, refl)

pub put-by-others : (row : List ℕ) (s : State) (n : ℕ) → (eqb n 15 || eqb n 16) ≡ false → row_after row n s ≡ row_of s
unfolding row_after
put-by-others row s n e = rw e

-- ---- put and read

flag : (b : Bool) → eqb (bit b) 1 ≡ b
flag true = refl
flag false = refl

turned : (b : Bool) → not (eqb (bit (not b)) 1) ≡ b
turned true = refl
turned false = refl

pub put-read : (s : State) → state_of (row_of s) ≡ s
unfolding state_of
put-read s = rw (flag s.inside, turned s.begins, turned s.ends, turned s.blank)

-- ---- rows

pub no_row : (row : List ℕ) → (length row ≡ 7 → ⊥) → no_state ≡ state_of row
unfolding state_of
no_row row h = rw (ne_eqb (length row) 7 h)

pub row_read : (row : List ℕ) → length row ≡ 7
    → ◌≡◌ {A = State} (record { number = get_or row 0 0; inside = eqb (get_or row 1 0) 1; len = get_or row 2 0; col = get_or row 3 0; begins = not (eqb (get_or row 4 0) 1); ends = not (eqb (get_or row 5 0) 1); blank = not (eqb (get_or row 6 0) 1) }) (state_of row)
unfolding state_of
row_read row h = rw (eq-eqb (length row) 7 h)

-- the ranges of the numbers are those of the state that they stand for
pub same-range : (row : List ℕ) → numbers_in_range row ≡ in_range (state_of row)
unfolding state_of in_range
same-range row = by_bool (eqb (length row) 7) (λ e. rw e) (λ e. rw e)
