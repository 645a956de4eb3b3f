-- A number in decimal is read back.
use mathlib.Core.Path.{◌≡◌, refl, sym, ap, ◌∙◌}
use mathlib.Core.Bool.{true}
use mathlib.Core.List.{[], ◌∷◌}
use Prim.Native.Nat.{ℕ, zero, suc, ◌+◌, ◌/◌, ◌%◌, ◌<◌}
use native.Mathlib.Omega.{arith}
use lib.Dec.{ltb}
use Rattle.text.specs.Bytes.{Bytes, ascii, is_digit, all}
use Rattle.text.specs.Decimal.{digits_before, decimal, value_from, number}
use Rattle.text.proofs.Cases.{by_bool, tests, in_between}

digits_value : (f n : ℕ) (t : Bytes) → n < f → value_from 0 (digits_before f n t) ≡ value_from n t
unfolding digits_before value_from
digits_value zero n t l = absurd (omega arith)
digits_value (suc f) n t l =
    by_bool (ltb n 10)
    (λ e. rw e (ap (λ (x : ℕ). value_from x t) (omega arith)))
    (λ e. rw (e, digits_value f (n / 10) ((48 + n % 10) ∷ t) (omega tests)) (ap (λ (x : ℕ). value_from x t) (omega arith)))

pub number-decimal : (n : ℕ) → number (decimal n) ≡ n
unfolding decimal number value_from
number-decimal n = rw (digits_value (suc n) n [] (omega arith))

pub decimal_injective : {m n : ℕ} → decimal m ≡ decimal n → m ≡ n
decimal_injective {m} {n} e = sym (number-decimal m) ∙ ap number e ∙ number-decimal n

digits-digits : (f n : ℕ) (t : Bytes) → n < f → all is_digit t ≡ true → all is_digit (digits_before f n t) ≡ true
unfolding digits_before all
digits-digits zero n t l h = h
digits-digits (suc f) n t l h =
    by_bool (ltb n 10)
    (λ e. rw (e, in_between 48 57 (48 + n) (omega arith) (omega tests), h))
    (λ e. rw e (digits-digits f (n / 10) ((48 + n % 10) ∷ t) (omega tests) (rw (in_between 48 57 (48 + n % 10) (omega arith) (omega arith), h))))

pub decimal-digits : (n : ℕ) → all is_digit (decimal n) ≡ true
unfolding decimal all
decimal-digits n = digits-digits (suc n) n [] (omega arith) refl

-- worked example
big : decimal 1234567890 ≡ ascii "1234567890"
unfolding decimal digits_before
big = refl
