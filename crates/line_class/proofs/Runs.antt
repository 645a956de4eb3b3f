-- Bytes that pass a test: one turn of a loop over a run of them, or over all bytes.
use mathlib.Core.Path.{◌≡◌, refl, ap}
use mathlib.Core.Bool.{Bool, true, false}
use mathlib.Core.List.{[], ◌∷◌}
use Prim.Native.Nat.{ℕ, suc, ◌+◌, ◌≤◌, ◌<◌}
use native.Mathlib.Omega.{arith}
use native.Mathlib.Numerals.{add-one}
use lib.ListN.{length, take, drop, get_or, drop_of_length-le}
use lib.Seq.{drop-cons}
use Rattle.text.specs.Bytes.{Bytes, any, all}
use Rattle.text.specs.Reader.{taken, past}
use Rattle.text.proofs.Cases.{by_bool}

taken-cons : (p : ℕ → Bool) (c : ℕ) (s : Bytes) → p c ≡ true → length (taken p (c ∷ s)) ≡ suc (length (taken p s))
unfolding taken
taken-cons p c s e = rw e

taken-stop : (p : ℕ → Bool) (c : ℕ) (s : Bytes) → p c ≡ false → length (taken p (c ∷ s)) ≡ 0
unfolding taken
taken-stop p c s e = rw e

taken-nil : (p : ℕ → Bool) → length (taken p []) ≡ 0
unfolding taken
taken-nil p = refl

-- a byte that passes: the run goes on after it
pub run_on : (p : ℕ → Bool) (s : Bytes) (i : ℕ) → i < length s → p (get_or s i 0) ≡ true
    → i + length (taken p (drop i s)) ≡ (i + 1) + length (taken p (drop (i + 1) s))
run_on p s i h e =
    let a : length (taken p (drop i s)) ≡ suc (length (taken p (drop (i + 1) s))) = rw (drop-cons s i 0, add-one) (taken-cons p _ _ e) in
    omega arith

-- a byte that does not: the run ends before it
pub run-stops : (p : ℕ → Bool) (s : Bytes) (i : ℕ) → i < length s → p (get_or s i 0) ≡ false → i + length (taken p (drop i s)) ≡ i
run-stops p s i h e =
    let a : length (taken p (drop i s)) ≡ 0 = rw (drop-cons s i 0) (taken-stop p _ _ e) in
    omega arith

pub run_out : (p : ℕ → Bool) (s : Bytes) (i : ℕ) → length s ≤ i → i + length (taken p (drop i s)) ≡ i
run_out p s i h =
    let a : length (taken p (drop i s)) ≡ 0 = rw (drop_of_length-le s h) (taken-nil p) in
    omega arith

-- ---- two tests that agree on the bytes

pub all_alike : (p q : ℕ → Bool) (s : Bytes) → ((i : ℕ) → p (get_or s i 0) ≡ q (get_or s i 0)) → all p s ≡ all q s
unfolding all
all_alike p q [] h = refl
all_alike p q (c ∷ s) h = rw (h 0, all_alike p q s (λ i. h (suc i)))

-- ---- a byte at least, and all of them: the byte that decides, and one that does not

pub any_here : (p : ℕ → Bool) (s : Bytes) (i : ℕ) → i < length s → p (get_or s i 0) ≡ true → any p (drop i s) ≡ true
unfolding any
any_here p s i h e = rw (drop-cons s i 0, e)

pub any-later : (p : ℕ → Bool) (s : Bytes) (i : ℕ) → i < length s → p (get_or s i 0) ≡ false → any p (drop i s) ≡ any p (drop (i + 1) s)
unfolding any
any-later p s i h e = rw (drop-cons s i 0, e, add-one)

pub any_none : (p : ℕ → Bool) (s : Bytes) (i : ℕ) → length s ≤ i → any p (drop i s) ≡ false
unfolding any
any_none p s i h = rw (drop_of_length-le s h)

pub all-not : (p : ℕ → Bool) (s : Bytes) (i : ℕ) → i < length s → p (get_or s i 0) ≡ false → all p (drop i s) ≡ false
unfolding all
all-not p s i h e = rw (drop-cons s i 0, e)

pub all-later : (p : ℕ → Bool) (s : Bytes) (i : ℕ) → i < length s → p (get_or s i 0) ≡ true → all p (drop i s) ≡ all p (drop (i + 1) s)
unfolding all
all-later p s i h e = rw (drop-cons s i 0, e, add-one)

pub all-out : (p : ℕ → Bool) (s : Bytes) (i : ℕ) → length s ≤ i → all p (drop i s) ≡ true
unfolding all
all-out p s i h = rw (drop_of_length-le s h)

-- ---- a run is a front, and what is past it the rest

pub taken-part : (p : ℕ → Bool) (s : Bytes) → taken p s ≡ take (length (taken p s)) s
unfolding taken
taken-part p [] = refl
taken-part p (c ∷ s) = by_bool (p c) (λ e. rw e (ap (λ (l : Bytes). c ∷ l) (taken-part p s))) (λ e. rw e)

pub past-part : (p : ℕ → Bool) (s : Bytes) → past p s ≡ drop (length (taken p s)) s
unfolding taken past
past-part p [] = refl
past-part p (c ∷ s) = by_bool (p c) (λ e. rw e (past-part p s)) (λ e. rw e)

pub taken-within : (p : ℕ → Bool) (s : Bytes) → length (taken p s) ≤ length s
unfolding taken
taken-within p [] = omega arith
taken-within p (c ∷ s) = by_bool (p c) (λ e. rw e (omega (arith, taken-within p s))) (λ e. rw e (omega arith))
