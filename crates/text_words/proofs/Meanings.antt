-- What a byte that passes a class's test is not.
use mathlib.Core.Path.{◌≡◌}
use mathlib.Core.Bool.{true, ◌||◌, not}
use Prim.Native.Nat.{ℕ, ◌≤◌}
use lib.Dec.{eqb, leb}
use borrow.Author.Tests.{eqb-false, leb-true}
use Rattle.text.proofs.Cases.{and_left, and_right, not-true, or_left, or_right}
use Rattle.text_words.specs.Words.{soft, bare, raw, plain}

-- neither of two keys
apart : (c j k : ℕ) → not (eqb c j || eqb c k) ≡ true → (c ≡ j → ⊥) × (c ≡ k → ⊥)
apart c j k e =
    let z = not-true (eqb c j || eqb c k) e in
    (eqb-false c j (or_left (eqb c j) (eqb c k) z), eqb-false c k (or_right (eqb c j) (eqb c k) z))

module _ (c : ℕ) where
  pub soft-is : soft c ≡ true → (c ≡ 34 → ⊥) × (c ≡ 92 → ⊥)
  unfolding soft
  soft-is e = apart c 34 92 e

  pub bare-is : bare c ≡ true → (32 ≤ c) × (c ≡ 34 → ⊥) × (c ≡ 92 → ⊥)
  unfolding bare
  bare-is e = let s = soft-is (and_right (leb 32 c) (soft c) e) in (leb-true 32 c (and_left (leb 32 c) (soft c) e), s.0, s.1)

  pub raw-is : raw c ≡ true → (32 ≤ c) × (c ≤ 127) × (c ≡ 34 → ⊥) × (c ≡ 92 → ⊥)
  unfolding raw
  raw-is e = let b = bare-is (and_right (leb c 127) (bare c) e) in (b.0, leb-true c 127 (and_left (leb c 127) (bare c) e), b.1, b.2)

  pub plain-is : plain c ≡ true → (32 ≤ c) × (c ≡ 34 → ⊥) × (c ≡ 92 → ⊥) × (c ≡ 44 → ⊥) × (c ≡ 59 → ⊥) × (c ≡ 127 → ⊥)
  unfolding plain
  plain-is e =
      let b = bare-is (and_right (not (eqb c 127 || (eqb c 44 || eqb c 59))) (bare c) e) in
      let z = not-true (eqb c 127 || (eqb c 44 || eqb c 59)) (and_left (not (eqb c 127 || (eqb c 44 || eqb c 59))) (bare c) e) in
      let y = or_right (eqb c 127) (eqb c 44 || eqb c 59) z in
      (b.0, b.1, b.2, eqb-false c 44 (or_left (eqb c 44) (eqb c 59) y), eqb-false c 59 (or_right (eqb c 44) (eqb c 59) y), eqb-false c 127 (or_left (eqb c 127) (eqb c 44 || eqb c 59) z))
