-- What is known of an answer that is a result: every test before it was fine. And the other way round.
use mathlib.Core.Path.{◌≡◌, refl, sym}
use mathlib.Core.Bool.{Bool, true, false}
use mathlib.Core.List.{List, [], ◌∷◌}
use mathlib.Core.Option.{Option, none, some}
use Prim.Native.Nat.{ℕ, suc}
use native.Mathlib.Omega.{arith}
use lib.ListN.{length}
use lib.Dec.{ltb}
use Rattle.text.specs.Bytes.{Bytes, any}
use Rattle.text.proofs.Cases.{by_bool, or_left, or_right}
use Rattle.text.proofs.Choices.{none-some}
use Rattle.convert.specs.Answers.{Answer, no, yes, Test, fine, fails, seek, given, first_from, given_at, at_line, fitted}

pub no-yes {ℓ} : {P : Type ℓ} {n p : ℕ} {b : Bytes} → no n p ≡ yes b → P
no-yes e = let r : ◌≡◌ {A = ℕ} 0 1 = cc in absurd (omega arith)

pub yes-same : {a b : Bytes} → yes a ≡ yes b → a ≡ b
yes-same e = cc

-- ---- tests that were fine

pub seek-fine : (t : Test) (ts : List Test) (a : Answer) (b : Bytes) → seek (t ∷ ts) a ≡ yes b → (t ≡ fine) × (seek ts a ≡ yes b)
unfolding seek
seek-fine fine ts a b e = (refl, e)
seek-fine (fails n p) ts a b e = no-yes e

pub given-false : (n : ℕ) (b : Bool) → given n b ≡ fine → b ≡ false
given-false n true e = let r : ◌≡◌ {A = ℕ} 0 1 = cc in absurd (omega arith)
given-false n false e = refl

pub given-none : (n : ℕ) (o : Option ℕ) → given_at n o ≡ fine → o ≡ none
given-none n none e = refl
given-none n (some i) e = let r : ◌≡◌ {A = ℕ} 0 1 = cc in absurd (omega arith)

pub first-none : {A : Type 0} (i : ℕ) (p : A → Bool) (xs : List A) → first_from i p xs ≡ none → any p xs ≡ false
unfolding first_from any
first-none i p [] e = refl
first-none i p (x ∷ xs) e = by_bool (p x) (λ q. none-some (sym (rw q at e))) (λ q. rw q (first-none (suc i) p xs (rw q at e)))

pub none_first : {A : Type 0} (i : ℕ) (p : A → Bool) (xs : List A) → any p xs ≡ false → first_from i p xs ≡ none
unfolding first_from any
none_first i p [] h = refl
none_first i p (x ∷ xs) h = rw (or_left (p x) _ h) (none_first (suc i) p xs (or_right (p x) _ h))

pub at-line-none : {A : Type 0} (n : ℕ) (p : A → Bool) (xs : List A) → at_line n p xs ≡ fine → any p xs ≡ false
at-line-none n p xs e = first-none 1 p xs (given-none n (first_from 1 p xs) e)

-- ---- a result that fitted

pub fitted-inv : (full lent : ℕ) (r b : Bytes) → fitted full lent r ≡ yes b → (ltb full (length r) ≡ false) × (ltb lent (length r) ≡ false) × (b ≡ r)
unfolding fitted seek
fitted-inv full lent r b e =
    let i = seek-fine (given 3 (ltb full (length r))) (given 14 (ltb lent (length r)) ∷ []) (yes r) b e in
    let j = seek-fine (given 14 (ltb lent (length r))) [] (yes r) b i.1 in
    (given-false 3 (ltb full (length r)) i.0, given-false 14 (ltb lent (length r)) j.0, sym (yes-same j.1))
