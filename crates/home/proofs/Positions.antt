-- A place found in a list is inside it, and what stands there passes the test.
use mathlib.Core.Path.{◌≡◌, refl, sym, ap, ◌∙◌}
use mathlib.Core.Bool.{Bool, true}
use mathlib.Core.List.{List, [], ◌∷◌, ◌++◌}
use mathlib.Core.Option.{Option, none, some}
use Prim.Native.Nat.{ℕ, zero, suc, ◌≤◌}
use native.Mathlib.Omega.{arith}
use lib.ListN.{length, get_or, take}
use lib.Dec.{ltb, eqb}
use borrow.Author.Tests.{eqb-true}
use Rattle.text.specs.Choice.{with-some}
use Rattle.text.specs.Bytes.{Bytes, same, any, all, keep}
use Rattle.text.proofs.Cases.{by_bool, testing, not-both}
use Rattle.text.proofs.Choices.{none-some, some_same}
use Rattle.text.proofs.Same.{same_true}
use Rattle.text.proofs.Lists.{all_head, all_tail, keep-passes, all-imply}
use Rattle.convert.specs.Table.{position, in_order, context_codes, feature_codes}
use Rattle.convert.specs.Value.{filled, is_pref}

next-inv : (x : Option ℕ) (k : ℕ) → with-some x (λ n. some (suc n)) none ≡ some k → (n : ℕ) × (x ≡ some n) × (k ≡ suc n)
next-inv (some n) k e = (n, refl, sym (some_same e))
next-inv none k e = none-some e

module _ {A : Type 0} (p : A → Bool) where
  pub position-passes : (d : A) (xs : List A) (k : ℕ) → position p xs ≡ some k → p (get_or xs k d) ≡ true
  unfolding position
  position-passes d [] k e = none-some e
  position-passes d (x ∷ xs) k e =
      by_bool (p x)
      (λ t. rw (← some_same (rw t at e)) t)
      (λ t. let v = next-inv (position p xs) k (rw t at e) in rw v.2 (position-passes d xs v.0 v.1))

  pub position-inside : (xs : List A) (k : ℕ) → position p xs ≡ some k → ltb k (length xs) ≡ true
  unfolding position
  position-inside [] k e = none-some e
  position-inside (x ∷ xs) k e =
      by_bool (p x)
      (λ t. let z : 0 ≡ k = some_same (rw t at e) in omega testing)
      (λ t. let v = next-inv (position p xs) k (rw t at e) in let s = v.2 in let l = position-inside xs v.0 v.1 in omega testing)

  -- a place in the front part is that place in the whole
  pub position-take : (n : ℕ) (xs : List A) (k : ℕ) → position p (take n xs) ≡ some k → position p xs ≡ some k
  unfolding position
  position-take zero xs k e = none-some e
  position-take (suc n) [] k e = none-some e
  position-take (suc n) (x ∷ xs) k e =
      by_bool (p x)
      (λ t. rw t (rw t at e))
      (λ t. let v = next-inv (position p (take n xs)) k (rw t at e) in rw (t, position-take n xs v.0 v.1) (ap some (sym v.2)))

pub take-length : {A : Type 0} (n : ℕ) (xs : List A) → length (take n xs) ≤ n
take-length zero xs = omega arith
take-length (suc n) [] = omega arith
take-length (suc n) (x ∷ xs) = omega (arith, take-length n xs)

-- the name at a place where a name was found
pub position-name : (s : Bytes) (ns : List Bytes) (k : ℕ) → position (same s) ns ≡ some k → s ≡ get_or ns k []
position-name s ns k e = same_true s (get_or ns k []) (position-passes (same s) [] ns k e)

-- a preference is no empty string
pub pref-filled : (p : Bytes) → is_pref p ≡ true → filled p ≡ true
unfolding is_pref
pref-filled [] h = h
pref-filled (c ∷ p) h = refl

-- what holds of some codes holds of them in order
among-codes : (p : ℕ → Bool) (c : ℕ) (cs : List ℕ) → all p cs ≡ true → any (eqb c) cs ≡ true → p c ≡ true
unfolding any
among-codes p c [] h e = not-both refl (sym e)
among-codes p c (d ∷ cs) h e =
    by_bool (eqb c d) (λ q. ap p (eqb-true c d q) ∙ all_head p d cs h) (λ q. among-codes p c cs (all_tail p d cs h) (rw q at e))

pub in_order-all : (p : ℕ → Bool) (cs : List ℕ) → all p cs ≡ true → all p (in_order cs) ≡ true
unfolding in_order
in_order-all p cs h =
    all-imply (λ c. any (eqb c) cs) p (λ c e. among-codes p c cs h e) (keep (λ c. any (eqb c) cs) (context_codes ++ feature_codes)) (keep-passes (λ c. any (eqb c) cs) (context_codes ++ feature_codes))
