-- Words put back from shorter ones.
use mathlib.Core.Path.{◌≡◌, refl, sym, ap, ap₂, ◌∙◌}
use Prim.Native.Nat.{ℕ, zero, suc, ◌+◌, ◌/◌, ◌%◌}
use native.Mathlib.Omega.{arith}
use lib.ListN.{length, set, length-set}
use lib.Pow.{shr-shr}
use Rattle.text.specs.Bytes.{Bytes}
use Rattle.text_words.specs.Words.{stored}

pub stored-length : (n w to : ℕ) (l : Bytes) → length (stored n w to l) ≡ length l
unfolding stored
stored-length zero w to l = refl
stored-length (suc n) w to l = stored-length n (w / 256) (to + 1) (set l to (w % 256)) ∙ length-set l to (w % 256)

module _ (w to : ℕ) (l : Bytes) where
  pub stored-two : set (set l to (w % 256)) (to + 1) (w / 256 % 256) ≡ stored 2 w to l
  unfolding stored
  stored-two = refl

  pub stored-four : stored 2 (w / 65536) (to + 2) (stored 2 w to l) ≡ stored 4 w to l
  unfolding stored
  stored-four =
      let e : to + 2 ≡ to + 1 + 1 = omega arith in
      ap₂ (λ (x y : ℕ). stored 2 x y (stored 2 w to l)) (sym (shr-shr w 8 8)) e

  pub stored-eight : stored 4 (w / 4294967296) (to + 4) (stored 4 w to l) ≡ stored 8 w to l
  unfolding stored
  stored-eight =
      let e : to + 4 ≡ to + 1 + 1 + 1 + 1 = omega arith in
      let d : w / 4294967296 ≡ w / 256 / 256 / 256 / 256 = sym (ap (λ (x : ℕ). x / 256) (ap (λ (x : ℕ). x / 256) (shr-shr w 8 8) ∙ shr-shr w 16 8) ∙ shr-shr w 24 8) in
      ap₂ (λ (x y : ℕ). stored 4 x y (stored 4 w to l)) d e
