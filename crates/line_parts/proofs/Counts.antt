-- How many parts there are, part by part.
use mathlib.Core.Path.{◌≡◌, ap, ◌∙◌}
use mathlib.Core.Bool.{true, false}
use mathlib.Core.List.{List, [], ◌∷◌}
use Prim.Native.Nat.{ℕ, ◌+◌, ◌≤◌, ◌<◌}
use native.Mathlib.Omega.{arith}
use lib.Dec.{eqb}
use lib.ListN.{length, drop}
use borrow.Author.Tests.{lt-ltb, le-ltb}
use Rattle.text.specs.Bytes.{Bytes, on_head}
use Rattle.text.proofs.Cases.{by_bool}
use Rattle.line.specs.Text.{split_from, split_text}
use Rattle.line_text.specs.Split.{PartEnds}

head-some : (c : ℕ) (ss : List Bytes) → 0 < length (on_head c ss)
unfolding on_head
head-some c [] = omega arith
head-some c (x ∷ xs) = omega arith

-- there is always one
pub parts-some : (d : ℕ) (s : Bytes) → 0 < length (split_text d s)
unfolding split_text split_from
parts-some d [] = omega arith
parts-some d (c ∷ s) =
    by_bool (eqb c 92)
    (λ h. rw h (head-some c (split_from true d s)))
    (λ h. by_bool (eqb c d) (λ k. rw (h, k) (omega arith)) (λ k. rw (h, k) (head-some c (split_from false d s))))

module _ {d : ℕ} {s : Bytes} {at e : ℕ} (p : PartEnds d s at e) where
  pub part-last : length s ≤ e → length (split_text d (drop at s)) ≡ 1
  part-last h = ap length p.parts ∙ rw (le-ltb e (length s) h)

  pub part-more : e < length s → length (split_text d (drop at s)) ≡ 1 + length (split_text d (drop (e + 1) s))
  part-more h = ap length p.parts ∙ rw (lt-ltb e (length s) h) (omega arith)
