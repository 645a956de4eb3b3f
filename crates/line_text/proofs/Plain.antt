-- Runs without a backslash: found, and read as they stand.
use mathlib.Core.Path.{◌≡◌, refl, sym, ap, subst, ◌∙◌}
use mathlib.Core.Bool.{Bool, true, false, ◌||◌}
use mathlib.Core.List.{◌∷◌, ◌++◌, append-nil}
use Prim.Native.Nat.{ℕ, zero, suc, ◌+◌, ◌-◌, ◌≤◌, ◌<◌}
use native.Mathlib.Omega.{arith}
use native.Mathlib.Numerals.{add-one}
use native.Mathlib.Nat.{add-zero}
use lib.ListN.{length, take, drop, get_or, length-drop}
use lib.Seq.{drop-cons, take_all}
use lib.Dec.{eqb}
use borrow.Author.Tests.{eqb-false}
use Rattle.text.specs.Choice.{is_some}
use Rattle.text.specs.Bytes.{Bytes}
use Rattle.text.proofs.Cases.{or_left, or_right}
use Rattle.output.proofs.Laws.{split}
use Rattle.line.specs.Text.{read_text}
use Rattle.line_text.specs.declared.Char.TheVariants.{End}
use Rattle.line_text.specs.Read.{Plain, plain_text}
use Rattle.line_text.proofs.Reading.{at-end, at_plain, end-good, end-plain, byte-good, byte-plain}

-- ---- found

pub plain-none : (s : Bytes) (a : ℕ) → Plain s a a
plain-none s a k l u e = omega arith

pub plain-on : (s : Bytes) (a b c : ℕ) → Plain s a b → Plain s b c → Plain s a c
plain-on s a b c p q k l u e = split b k (λ h. q k h u e) (λ h. p k l h e)

pub plain-one : (s : Bytes) (a b : ℕ) → Plain s a b → (get_or s b 0 ≡ 92 → ⊥) → Plain s a (b + 1)
plain-one s a b p n = plain-on s a b (b + 1) p (λ k l u e. let z : k ≡ b = omega arith in n (ap (λ (m : ℕ). get_or s m 0) (sym z) ∙ e))

-- one byte more of sixteen
pub plain_more : (s : Bytes) (a k : ℕ) (found : Bool) → (found ≡ false → Plain s a (a + k))
    → found || eqb (get_or s (a + k) 0) 92 ≡ false → Plain s a (a + (k + 1))
plain_more s a k found so e =
    let n : (a + k) + 1 ≡ a + (k + 1) = omega arith in
    subst (λ m. Plain s a m) n (plain-one s a (a + k) (so (or_left found _ e)) (eqb-false _ _ (or_right found _ e)))

-- ---- read

module _ (s : Bytes) where
  -- the first byte of a run
  module _ (a m : ℕ) (h : a + suc m ≤ length s) (p : Plain s a (a + suc m)) where
    here : a < length s
    here = omega arith

    no : get_or s a 0 ≡ 92 → ⊥
    no = p a (omega arith) (omega arith)

    others : Plain s (a + 1) (a + 1 + m)
    others k l u = p k (omega arith) (omega arith)

    on : a + 1 + m ≡ a + suc m
    on = omega arith

    good-first : is_some (read_text (drop a s)) ≡ is_some (read_text (drop (a + 1) s))
    good-first = byte-good s a _ (at_plain s a here no) _ _ refl

    text-first : is_some (read_text (drop a s)) ≡ true → plain_text (drop a s) ≡ get_or s a 0 ∷ plain_text (drop (a + 1) s)
    text-first = byte-plain s a _ (at_plain s a here no) _ _ refl

    taken-first : take (suc m) (drop a s) ≡ get_or s a 0 ∷ take m (drop (a + 1) s)
    taken-first = rw (drop-cons s a 0 here, add-one)

  run-good : (n a : ℕ) → a + n ≤ length s → Plain s a (a + n) → is_some (read_text (drop a s)) ≡ is_some (read_text (drop (a + n) s))
  run-good zero a h p = ap (λ (k : ℕ). is_some (read_text (drop k s))) (sym (add-zero a))
  run-good (suc m) a h p =
      let i : a + 1 + m ≤ length s = omega arith in
      good-first a m h p ∙ run-good m (a + 1) i (others a m h p) ∙ ap (λ (k : ℕ). is_some (read_text (drop k s))) (on a m h p)

  run-plain : (n a : ℕ) → a + n ≤ length s → Plain s a (a + n) → is_some (read_text (drop a s)) ≡ true
      → plain_text (drop a s) ≡ take n (drop a s) ++ plain_text (drop (a + n) s)
  run-plain zero a h p g = ap (λ (k : ℕ). plain_text (drop k s)) (sym (add-zero a))
  run-plain (suc m) a h p g =
      let i : a + 1 + m ≤ length s = omega arith in
      let t = run-plain m (a + 1) i (others a m h p) (sym (good-first a m h p) ∙ g) in
      text-first a m h p g ∙ ap (λ (l : Bytes). get_or s a 0 ∷ l) t ∙
      ap (λ (l : Bytes). l ++ plain_text (drop (a + 1 + m) s)) (sym (taken-first a m h p)) ∙
      ap (λ (k : ℕ). take (suc m) (drop a s) ++ plain_text (drop k s)) (on a m h p)

  -- from a up to b
  module _ (a b : ℕ) (l : a ≤ b) (h : b ≤ length s) (p : Plain s a b) where
    to_end : a + (b - a) ≡ b
    to_end = omega arith

    in-text : a + (b - a) ≤ length s
    in-text = omega arith

    all_plain : Plain s a (a + (b - a))
    all_plain k m u = p k m (omega arith)

    pub plain-good : is_some (read_text (drop a s)) ≡ is_some (read_text (drop b s))
    plain-good = run-good (b - a) a in-text all_plain ∙ ap (λ (k : ℕ). is_some (read_text (drop k s))) to_end

    pub plain-run : is_some (read_text (drop a s)) ≡ true → plain_text (drop a s) ≡ take (b - a) (drop a s) ++ plain_text (drop b s)
    plain-run g = run-plain (b - a) a in-text all_plain g ∙ ap (λ (k : ℕ). take (b - a) (drop a s) ++ plain_text (drop k s)) to_end

  -- no backslash at all
  pub plain-whole : (b : ℕ) → b ≤ length s → length s ≤ b → Plain s 0 b → s ≡ plain_text s
  plain-whole b h l p =
      let z : 0 ≤ b = omega arith in
      let g = plain-good 0 b z h p ∙ end-good s b End (at-end s b l) refl in
      let e = plain-run 0 b z h p g ∙ ap (λ (t : Bytes). take (b - 0) s ++ t) (end-plain s b End (at-end s b l) refl) in
      sym (e ∙ append-nil (take (b - 0) s) ∙ take_all (b - 0) s (omega arith))

  -- whether it is TEXT is told by what follows
  pub plain-tail : (b : ℕ) → b ≤ length s → Plain s 0 b → is_some (read_text s) ≡ is_some (read_text (take (length s - b) (drop b s)))
  plain-tail b h p =
      let z : 0 ≤ b = omega arith in
      let e = take_all (length s - b) (drop b s) (omega (arith, length-drop b s)) in
      plain-good 0 b z h p ∙ ap (λ (t : Bytes). is_some (read_text t)) (sym e)
