-- Letter case of ASCII letters.
use mathlib.Core.Path.{◌≡◌, refl, ap, ap₂}
use mathlib.Core.Bool.{Bool, false}
use mathlib.Core.List.{[], ◌∷◌, ◌++◌, map}
use Prim.Native.Nat.{ℕ}
use lib.Dec.{ltb}
use Rattle.text.specs.Bytes.{Bytes, ascii, between, is_lower, is_upper, lower, upper, lowered, uppered, empty}
use Rattle.text.proofs.Cases.{by_below, up_to, tests, beyond}

-- from 128 on there is no letter
pub no_lower : (c : ℕ) → ltb c 128 ≡ false → is_lower c ≡ false
no_lower c l = beyond 97 122 c (omega tests)

pub no-upper : (c : ℕ) → ltb c 128 ≡ false → is_upper c ≡ false
no-upper c l = beyond 65 90 c (omega tests)

pub high-lower : (c : ℕ) → ltb c 128 ≡ false → lower c ≡ c
unfolding lower
high-lower c l = rw (no-upper c l)

pub high-upper : (c : ℕ) → ltb c 128 ≡ false → upper c ≡ c
unfolding upper
high-upper c l = rw (no_lower c l)

-- ---- one byte

pub lower-upper : (c : ℕ) → lower (upper c) ≡ lower c
unfolding lower upper between
lower-upper c = by_below (λ c. lower (upper c)) lower c 128 refl (λ l. ap lower (high-upper c l))

pub upper-lower : (c : ℕ) → upper (lower c) ≡ upper c
unfolding lower upper between
upper-lower c = by_below (λ c. upper (lower c)) upper c 128 refl (λ l. ap upper (high-lower c l))

pub lower-lower : (c : ℕ) → lower (lower c) ≡ lower c
unfolding lower between
lower-lower c = by_below (λ c. lower (lower c)) lower c 128 refl (λ l. ap lower (high-lower c l))

-- a test of bytes that the case of letters does not change
pub upper-test : (p : ℕ → Bool) → map (λ c. p (upper c)) ((up_to 128)) ≡ map p (up_to 128) → (c : ℕ) → p (upper c) ≡ p c
upper-test p e c = by_below (λ c. p (upper c)) p c 128 e (λ l. ap p (high-upper c l))

pub lower-test : (p : ℕ → Bool) → map (λ c. p (lower c)) (up_to 128) ≡ map p (up_to 128) → (c : ℕ) → p (lower c) ≡ p c
lower-test p e c = by_below (λ c. p (lower c)) p c 128 e (λ l. ap p (high-lower c l))

-- ---- texts

pub lowered-uppered : (s : Bytes) → lowered (uppered s) ≡ lowered s
unfolding lowered uppered
lowered-uppered [] = refl
lowered-uppered (c ∷ s) = ap₂ ◌∷◌ (lower-upper c) (lowered-uppered s)

pub uppered-lowered : (s : Bytes) → uppered (lowered s) ≡ uppered s
unfolding lowered uppered
uppered-lowered [] = refl
uppered-lowered (c ∷ s) = ap₂ ◌∷◌ (upper-lower c) (uppered-lowered s)

pub lowered-lowered : (s : Bytes) → lowered (lowered s) ≡ lowered s
unfolding lowered
lowered-lowered [] = refl
lowered-lowered (c ∷ s) = ap₂ ◌∷◌ (lower-lower c) (lowered-lowered s)

pub lowered-append : (s t : Bytes) → lowered (s ++ t) ≡ lowered s ++ lowered t
unfolding lowered
lowered-append [] t = refl
lowered-append (c ∷ s) t = ap (λ (x : Bytes). lower c ∷ x) (lowered-append s t)

-- worked example
mixed : lowered (uppered (ascii "a-Z9")) ≡ ascii "a-z9"
unfolding lowered uppered lower upper between
mixed = refl

pub lowered-empty : (s : Bytes) → empty (lowered s) ≡ empty s
unfolding lowered
lowered-empty [] = refl
lowered-empty (c ∷ s) = refl
