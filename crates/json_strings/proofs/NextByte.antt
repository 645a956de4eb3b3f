-- What the next decoded byte of a string tells.
use mathlib.Core.Path.{◌≡◌, refl, sym, ap, subst, ◌∙◌}
use mathlib.Core.Bool.{true, false}
use mathlib.Core.List.{[], ◌∷◌}
use mathlib.Core.Option.{Option, none, some}
use Prim.Native.Nat.{ℕ, ◌≤◌}
use native.Mathlib.Omega.{arith}
use lib.ListN.{length}
use lib.Dec.{ltb}
use borrow.Author.Tests.{ltb-true, ltb-false}
use Rattle.text.specs.Choice.{with-some, is_some}
use Rattle.text.proofs.Cases.{by_bool}
use Rattle.text.proofs.Choices.{some_same, none-some}
use Rattle.text.specs.Bytes.{Bytes}
use Rattle.json_text.specs.Strings.{before}
use Rattle.json_strings.specs.declared.Byte.{Byte}
use Rattle.json_strings.specs.declared.Byte.TheVariants.{One, End, Alone}
use Rattle.json_strings.specs.Decoded.{decoded_at, text_at, left, byte_of, ByteIn}
use Rattle.json_strings.proofs.Laws.{left-none, decoded-past}

-- once it is known which answer it was
pub byte-in : (s : Bytes) (at h : ℕ) {r q : Byte} → ByteIn s at h r → r ≡ q → ByteIn s at h q
byte-in s at h w e = subst (ByteIn s at h) e w

module _ (s : Bytes) {x : Option Bytes} {r : Byte} (q : x ≡ byte_of s r) where
  pub is-alone : r ≡ Alone → x ≡ none
  is-alone e = q ∙ ap (byte_of s) e

  pub is-end : r ≡ End → x ≡ some []
  is-end e = q ∙ ap (byte_of s) e

  pub is_one : {b j g : ℕ} → r ≡ One b j g → x ≡ before (b ∷ []) (left s j g)
  is_one e = q ∙ ap (byte_of s) e

  -- of a string that stands for bytes
  module _ (y : Bytes) (h : x ≡ some y) where
    pub not-alone : r ≡ Alone → ⊥
    not-alone e = none-some (sym (is-alone e) ∙ h)

    pub none_left : r ≡ End → y ≡ []
    none_left e = some_same (sym h ∙ is-end e)

    pub one_left : {b j g : ℕ} → r ≡ One b j g → (u : Bytes) × (left s j g ≡ some u) × (y ≡ b ∷ u)
    one_left {b} {j} {g} e = by (left s j g) refl (sym (is_one e) ∙ h)
      where
        by : (z : Option Bytes) → left s j g ≡ z → before (b ∷ []) z ≡ some y → (u : Bytes) × (left s j g ≡ some u) × (y ≡ b ∷ u)
        by none f q = none-some q
        by (some u) f q = (u, f, some_same (sym q))

-- ---- what a string stands for, as bytes
pub text-none : (s : Bytes) (at : ℕ) → is_some (decoded_at s at) ≡ false → text_at s at ≡ []
unfolding text_at
text-none s at e = by (decoded_at s at) e
  where
    by : (x : Option Bytes) → is_some x ≡ false → with-some x (λ y. y) [] ≡ []
    by none e = refl
    by (some y) e = let r : ◌≡◌ {A = ℕ} 0 1 = cc in absurd (omega arith)

pub text-some : (s : Bytes) (at : ℕ) (x : Bytes) → decoded_at s at ≡ some x → text_at s at ≡ x
unfolding text_at
text-some s at x e = ap (λ (y : Option Bytes). with-some y (λ z. z) []) e

pub text-left : (s : Bytes) (at : ℕ) → is_some (decoded_at s at) ≡ true → left s at 0 ≡ some (text_at s at)
unfolding text_at
text-left s at e = left-none s at ∙ by (decoded_at s at) e
  where
    by : (x : Option Bytes) → is_some x ≡ true → x ≡ some (with-some x (λ y. y) [])
    by none e = let r : ◌≡◌ {A = ℕ} 0 1 = cc in absurd (omega arith)
    by (some y) e = refl

-- a string that stands for bytes begins within the text
pub text_in : (s : Bytes) (at : ℕ) → is_some (decoded_at s at) ≡ true → at ≤ length s
text_in s at e =
    by_bool (ltb (length s) at) (λ p. let z : true ≡ false = sym e ∙ ap is_some (decoded-past s at (ltb-true (length s) at p)) in let r : ◌≡◌ {A = ℕ} 0 1 = cc in absurd (omega arith))
    (λ p. ltb-false (length s) at p)
