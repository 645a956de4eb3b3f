-- The first mark of a word, by the zeros below its lowest set bit.
use mathlib.Core.Path.{◌≡◌, refl, ap, ap₂, ◌∙◌}
use mathlib.Core.Bool.{Bool, true, false}
use Prim.Native.Nat.{ℕ, zero, suc, ◌+◌, ◌*◌, ◌/◌, ◌%◌, ◌^◌, ◌<◌}
use native.Mathlib.Nat.{mul-one, add-zero}
use native.Mathlib.Omega.{arith}
use lib.Arith.{digits_div}
use lib.Bits.{block_half, block_odd}
use lib.Count.{under, count_trailing_zeros}
use Rattle.text.proofs.Cases.{by_bool}
use Rattle.text_words.specs.Words.{word, mark, passing}

-- ---- the zeros below

eights : ℕ → ℕ
eights zero = zero
eights (suc n) = suc (suc (suc (suc (suc (suc (suc (suc (eights n))))))))

step : (k x j r : ℕ) → count_trailing_zeros (suc k) (x * 2 ^ suc j + r) ≡ under (r % 2) (count_trailing_zeros k (x * 2 ^ j + r / 2))
unfolding count_trailing_zeros
step k x j r = ap₂ (λ (a b : ℕ). under a (count_trailing_zeros k b)) (block_odd x j r) (block_half x j r)

module _ (n x : ℕ) where
  -- a byte that is 0 has eight zeros more
  zeros-none : count_trailing_zeros (eights (suc n)) (x * 256 + 0) ≡ 8 + count_trailing_zeros (eights n) x
  unfolding eights
  zeros-none =
      let k = eights n in
      let e : count_trailing_zeros (eights (suc n)) (x * 256 + 0) ≡ suc (suc (suc (suc (suc (suc (suc (suc (count_trailing_zeros k (x * 1 + 0))))))))) =
      step (suc (suc (suc (suc (suc (suc (suc k))))))) x 7 0
      ∙ ap suc (step (suc (suc (suc (suc (suc (suc k)))))) x 6 0
      ∙ ap suc (step (suc (suc (suc (suc (suc k))))) x 5 0
      ∙ ap suc (step (suc (suc (suc (suc k)))) x 4 0
      ∙ ap suc (step (suc (suc (suc k))) x 3 0
      ∙ ap suc (step (suc (suc k)) x 2 0
      ∙ ap suc (step (suc k) x 1 0
      ∙ ap suc (step k x 0 0))))))) in
      let z : count_trailing_zeros k (x * 1 + 0) ≡ count_trailing_zeros k x = ap (count_trailing_zeros k) (add-zero (x * 1) ∙ mul-one x) in
      omega arith

  -- a mark has seven zeros below it
  zeros-mark : count_trailing_zeros (eights (suc n)) (x * 256 + 128) ≡ 7
  unfolding eights
  zeros-mark =
      let k = eights n in
      step (suc (suc (suc (suc (suc (suc (suc k))))))) x 7 128
      ∙ ap suc (step (suc (suc (suc (suc (suc (suc k)))))) x 6 64
      ∙ ap suc (step (suc (suc (suc (suc (suc k))))) x 5 32
      ∙ ap suc (step (suc (suc (suc (suc k)))) x 4 16
      ∙ ap suc (step (suc (suc (suc k))) x 3 8
      ∙ ap suc (step (suc (suc k)) x 2 4
      ∙ ap suc (step (suc k) x 1 2
      ∙ ap suc (step k x 0 1)))))))

-- ---- the bytes before the first mark

abbrev Counted : ℕ → (ℕ → Bool) → Type 0
Counted n p = (d : ℕ) × (d < 8) × (count_trailing_zeros (eights n) (word n (λ i. mark (p i))) ≡ passing n p * 8 + d)

counted : (n : ℕ) (p : ℕ → Bool) → Counted n p
unfolding word passing eights count_trailing_zeros
counted zero p = (0, omega arith, refl)
counted (suc n) p = go (p 0) refl (counted n (λ i. p (suc i)))
  where
    go : (b : Bool) → p 0 ≡ b → Counted n (λ i. p (suc i)) → Counted (suc n) p
    go true e (d, l, q) = (d, l, rw e (zeros-none n (word n (λ i. mark (p (suc i)))) ∙ omega (arith, q)))
    go false e (d, l, q) = (7, omega arith, rw e (zeros-mark n (word n (λ i. mark (p (suc i))))))

pub first_of : (p : ℕ → Bool) → count_trailing_zeros 64 (word 8 (λ i. mark (p i))) / 8 ≡ passing 8 p
unfolding eights
first_of p = let c = counted 8 p in ap (λ (x : ℕ). x / 8) c.2 ∙ digits_div (passing 8 p) c.1

-- ---- whether there is a mark

pub none-marked : (n : ℕ) (p : ℕ → Bool) → word n (λ i. mark (p i)) ≡ 0 → passing n p ≡ n
unfolding word passing
none-marked zero p e = refl
none-marked (suc n) p e =
    by_bool (p 0)
    (λ q. rw q (ap suc (none-marked n (λ i. p (suc i)) (omega arith))))
    (λ q. let z : word n (λ i. mark (p (suc i))) * 256 + 128 ≡ 0 = rw q at e in absurd (omega arith))

pub some-marked : (n : ℕ) (p : ℕ → Bool) → (word n (λ i. mark (p i)) ≡ 0 → ⊥) → passing n p < n
unfolding word passing
some-marked zero p h = absurd (h refl)
some-marked (suc n) p h =
    by_bool (p 0)
    (λ q. rw q (let y = some-marked n (λ i. p (suc i)) (λ z. h (rw (q, z))) in omega arith))
    (λ q. rw q (omega arith))
