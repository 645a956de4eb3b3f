-- What C is given of a call of the stream is what the call gives.
use Prim.Native.Nat.{ℕ, ◌<◌}
use mathlib.Core.Path.{◌≡◌, refl, ap, ◌∙◌}
use mathlib.Core.Bool.{true, false, not, ◌||◌}
use mathlib.Core.List.{List, [], ◌∷◌}
use native.Mathlib.Omega.{arith}
use lib.ListN.{length, set}
use lib.Dec.{eqb, ltb}
use borrow.Author.Tests.{eq-eqb, ne_eqb, eqb-false}
use Rattle.text.specs.Choice.{pick}
use Rattle.text.specs.Bytes.{Bytes}
use Rattle.text.proofs.Cases.{by_bool}
use Rattle.convert.specs.Answers.{no, yes, json_room}
use Rattle.stream.specs.Calls.{Call, Shown, shows_more, shows}
use Rattle.stream_reader.specs.declared.State.{State}
use Rattle.stream_reader.specs.Machine.{cap, in_range}
use Rattle.stream_machine.specs.Turn.{Given, unfit, called}
use Rattle.stream_cards.specs.declared.Answered.{Answered}
use Rattle.stream_cards.specs.Promise.{Gives, said_of}
use Rattle.c_calls.specs.Numbers.{bit, row_of, no_state, state_of, row_after}
use Rattle.c_calls.specs.Promise.{Told, told_of, call_given, called_of}
use Rattle.c_calls.proofs.Numbers.{no_row}
use Rattle.thymebarrel.specs.Given.{told_by, row_put, Tells}

-- ---- seven numbers

by_seven : (P : List ℕ → Type 0) → ((a b c d e f g : ℕ) → P (a ∷ b ∷ c ∷ d ∷ e ∷ f ∷ g ∷ [])) → (row : List ℕ) → length row ≡ 7 → P row
by_seven P k [] h = absurd (omega arith)
by_seven P k (a ∷ []) h = absurd (omega arith)
by_seven P k (a ∷ (b ∷ [])) h = absurd (omega arith)
by_seven P k (a ∷ (b ∷ (c ∷ []))) h = absurd (omega arith)
by_seven P k (a ∷ (b ∷ (c ∷ (d ∷ [])))) h = absurd (omega arith)
by_seven P k (a ∷ (b ∷ (c ∷ (d ∷ (e ∷ []))))) h = absurd (omega arith)
by_seven P k (a ∷ (b ∷ (c ∷ (d ∷ (e ∷ (f ∷ [])))))) h = absurd (omega arith)
by_seven P k (a ∷ (b ∷ (c ∷ (d ∷ (e ∷ (f ∷ (g ∷ []))))))) h = k a b c d e f g
by_seven P k (a ∷ (b ∷ (c ∷ (d ∷ (e ∷ (f ∷ (g ∷ (x ∷ xs)))))))) h = absurd (omega arith)

pub row_kept : (row : List ℕ) (s : State) → (length row ≡ 7 → ⊥) → row ≡ row_put row s
unfolding row_put
row_kept row s h = rw (ne_eqb (length row) 7 h)

module _ (row : List ℕ) (h : length row ≡ 7) (x y z w : ℕ) where
  pub room-4 : 4 < length (set (set (set (set row 0 x) 1 y) 2 z) 3 w)
  room-4 = by_seven (λ r. 4 < length (set (set (set (set r 0 x) 1 y) 2 z) 3 w)) (λ a b c d e f g. omega arith) row h

  pub room-5 : (u : ℕ) → 5 < length (set (set (set (set (set row 0 x) 1 y) 2 z) 3 w) 4 u)
  room-5 u = by_seven (λ r. 5 < length (set (set (set (set (set r 0 x) 1 y) 2 z) 3 w) 4 u)) (λ a b c d e f g. omega arith) row h

  pub room-6 : (u v : ℕ) → 6 < length (set (set (set (set (set (set row 0 x) 1 y) 2 z) 3 w) 4 u) 5 v)
  room-6 u v = by_seven (λ r. 6 < length (set (set (set (set (set (set r 0 x) 1 y) 2 z) 3 w) 4 u) 5 v)) (λ a b c d e f g. omega arith) row h

pub row_written : (row : List ℕ) → length row ≡ 7 → (s : State) (i b e k : ℕ) → i ≡ bit s.inside → b ≡ bit (not s.begins) → e ≡ bit (not s.ends) → k ≡ bit (not s.blank)
    → set (set (set (set (set (set (set row 0 s.number) 1 i) 2 s.len) 3 s.col) 4 b) 5 e) 6 k ≡ row_put row s
unfolding row_put
row_written row h s i b e k p q r t =
    rw (eq-eqb (length row) 7 h, p, q, r, t)
    (by_seven (λ l. set (set (set (set (set (set (set l 0 s.number) 1 (bit s.inside)) 2 s.len) 3 s.col) 4 (bit (not s.begins))) 5 (bit (not s.ends))) 6 (bit (not s.blank)) ≡ row_of s)
    (λ a b c d e f g. refl) row h)

-- ---- a call

-- what is no state is refused
none-unfit : (room lent : ℕ) → unfit no_state room lent ≡ true
unfolding unfit in_range
none-unfit room lent = by_bool (ltb room cap) (λ e. rw e) (λ e. rw e (by_bool (ltb lent json_room) (λ f. rw f) (λ f. rw f)))

-- so where the numbers are not seven, 16 is told
none_told : (c : Call) (row : List ℕ) (d out : Bytes) → (length row ≡ 7 → ⊥) → (told_of (called c (state_of row) d out).shown).number ≡ 16
unfolding called
none_told c row d out h = rw (← no_row row h, none-unfit (length d) (length out))

put-after : (c : Call) (row : List ℕ) (d out : Bytes) (s : State)
    → pick (eqb (told_of (called c (state_of row) d out).shown).number 15 || eqb (told_of (called c (state_of row) d out).shown).number 16) row (row_put row s)
    ≡ row_after row (told_of (called c (state_of row) d out).shown).number s
unfolding row_after row_put
put-after c row d out s = by_bool (eqb (length row) 7) (λ e. rw e) (λ e. rw (none_told c row d out (eqb-false (length row) 7 e)))

said-told : (a : Shown) → told_by (said_of a) ≡ told_of a
said-told shows_more = refl
said-told (shows (no n p)) = refl
said-told (shows (yes bs)) = refl

pub call-told : (c : Call) (row : List ℕ) (d out : Bytes) (s : State) → s ≡ state_of row → (r : Answered) (d' out' : Bytes) → Gives (called c s d out) r d' out'
    → (t : Told) (n : ℕ) (row' : List ℕ) → Tells r row t n row' → call_given t n row' d' out' ≡ called_of row (called c (state_of row) d out)
call-told c row d out s e r d' out' h t n row' is =
    λ i. record { tells = tells i; consumed = (is.consumed ∙ ap (λ (x : Answered). x.used) gives.answer) i; numbers = numbers i; buffer = gives.buffer i; output = gives.output i }
  where
    g : Given
    g = called c (state_of row) d out

    gives : Gives g r d' out'
    gives = coe 0 1 (i. Gives (called c (e i) d out) r d' out') h

    tells : t ≡ told_of g.shown
    tells = is.tells ∙ ap (λ (x : Answered). told_by x.said) gives.answer ∙ said-told g.shown

    numbers : row' ≡ row_after row (told_of g.shown).number g.state
    numbers =
        is.numbers
        ∙ (λ i. pick (eqb (tells i).number 15 || eqb (tells i).number 16) row (row_put row (gives.answer i).next.state))
        ∙ put-after c row d out g.state

-- ---- what `tell_call` does

module _ (r : Answered) (row : List ℕ) (t : Told) (used : ℕ) (tells : t ≡ told_by r.said) (consumed : used ≡ r.used) where
  -- 15 and 16 leave the numbers as they were
  pub told-kept : (eqb t.number 15 || eqb t.number 16) ≡ true → Tells r row t used row
  told-kept h = record { tells = tells; consumed = consumed; numbers = rw h }

  pub told-put : (row' : List ℕ) → (eqb t.number 15 || eqb t.number 16) ≡ false → row' ≡ row_put row r.next.state → Tells r row t used row'
  told-put row' h after = record { tells = tells; consumed = consumed; numbers = rw h after }
