-- A value by its first byte.
use mathlib.Core.Path.{◌≡◌, refl, ap, subst, ◌∙◌}
use Prim.Native.Nat.{ℕ, zero, suc, ◌+◌, ◌-◌}
use native.Mathlib.Numerals.{sub-one}
use native.Mathlib.Omega.{arith}
use lib.ListN.{length, take, drop}
use lib.Seq.{take_all}
use borrow.Author.Tests.{eq-eqb, ne_eqb}
use Rattle.text.specs.Places.{Read}
use Rattle.text.specs.Bytes.{Bytes, is}
use Rattle.text.specs.Reader.{under, on}
use Rattle.text.specs.Places.{byte_at, Gives, Passes}
use Rattle.text.proofs.Places.{on-yes, on-no}
use Rattle.json_text.specs.Grammar.{is_space}
use Rattle.json_text.specs.Tree.{jarr, jobj}
use Rattle.json_text.specs.Syntax.{scalar, elements, pairs, value}
use Rattle.json_marks.proofs.Laws.{skip-to}

-- all of the bytes, as a part of them
pub all_of : (s : Bytes) → take (length s - 0) (drop 0 s) ≡ s
all_of s = take_all (length s - 0) s (omega arith)

-- a scalar read from such a part
pub scalar-in : (s : Bytes) (i : ℕ) {r : Read} → let t = take (length s - 0) (drop 0 s) in Gives t i (scalar (drop i t)) r → Gives s i (scalar (drop i s)) r
scalar-in s i {r} = subst (λ (t : Bytes). Gives t i (scalar (drop i t)) r) (all_of s)

module _ (s : Bytes) (at i : ℕ) (h : Passes is_space s at i) where
  pub as-flat : (d : ℕ) → d ≡ 0 → value d (drop at s) ≡ scalar (drop i s)
  unfolding value
  as-flat zero q = ap scalar (skip-to h)
  as-flat (suc d) q = absurd (omega arith)

module _ (s : Bytes) (i b : ℕ) (e : b ≡ byte_at s i) (at : ℕ) (h : Passes is_space s at i) where
  pub as-scalar : (d : ℕ) → (b ≡ 91 → ⊥) → (b ≡ 123 → ⊥) → value d (drop at s) ≡ scalar (drop i s)
  unfolding value
  as-scalar zero n m = ap scalar (skip-to h)
  as-scalar (suc d) n m = ap (on (is 91) _ _) (skip-to h) ∙ on-no (is 91) s i b e _ _ (ne_eqb _ _ n) ∙ on-no (is 123) s i b e _ _ (ne_eqb _ _ m)

  pub as-array : (d : ℕ) → (d ≡ 0 → ⊥) → b ≡ 91 → value d (drop at s) ≡ under jarr (elements (value (d - 1)) (drop (i + 1) s))
  unfolding value
  as-array zero n q = absurd (n refl)
  as-array (suc d) n q = ap (on (is 91) _ _) (skip-to h) ∙ on-yes (is 91) s i b e _ _ (eq-eqb _ _ q) ∙ rw sub-one

  pub as-object : (d : ℕ) → (d ≡ 0 → ⊥) → (b ≡ 91 → ⊥) → b ≡ 123 → value d (drop at s) ≡ under jobj (pairs (value (d - 1)) (drop (i + 1) s))
  unfolding value
  as-object zero n m q = absurd (n refl)
  as-object (suc d) n m q = ap (on (is 91) _ _) (skip-to h) ∙ on-no (is 91) s i b e _ _ (ne_eqb _ _ m) ∙ on-yes (is 123) s i b e _ _ (eq-eqb _ _ q) ∙ rw sub-one
