-- Words put together from shorter ones.
use mathlib.Core.Path.{◌≡◌, ap, sym, ◌∙◌}
use Prim.Native.Nat.{ℕ, ◌+◌, ◌*◌, ◌<◌}
use native.Mathlib.Nat.{add_assoc, add-zero}
use native.Mathlib.Omega.{arith}
use lib.ListN.{get_or, drop}
use lib.Seq.{get_or-drop}
use Rattle.text.specs.Bytes.{Bytes}
use Rattle.text_words.specs.Words.{word, Loaded}

module _ (s : Bytes) (at : ℕ) where
  -- a byte by its place
  pub byte_of : (i : ℕ) → get_or (drop at s) i 0 ≡ get_or s (at + i) 0
  byte_of i = get_or-drop at s i 0

  pub first_byte : get_or (drop at s) 0 0 ≡ get_or s at 0
  first_byte = byte_of 0 ∙ ap (λ (x : ℕ). get_or s x 0) (add-zero at)

  -- a byte from a later place on
  later : (k i : ℕ) → get_or (drop (at + k) s) i 0 ≡ get_or (drop at s) (k + i) 0
  later k i = get_or-drop (at + k) s i 0 ∙ ap (λ (x : ℕ). get_or s x 0) (add_assoc at k i) ∙ sym (get_or-drop at s (k + i) 0)

  pub loaded-two : (x y : ℕ) → x ≡ get_or s at 0 → y ≡ get_or s (at + 1) 0 → ((i : ℕ) → get_or s i 0 < 256) → Loaded 2 s at (x + y * 256)
  unfolding word
  loaded-two x y p q h = record {
    is = omega (arith, first_byte, byte_of 1);
    small = λ i. rw byte_of (h (at + i));
  }

  module _ (x y : ℕ) where
    pub below_two : Loaded 2 s at x → x < 65536
    unfolding word
    below_two p = omega (arith, p.is, p.small 0, p.small 1)

    pub below-four : Loaded 4 s at x → x < 4294967296
    unfolding word
    below-four p = omega (arith, p.is, p.small 0, p.small 1, p.small 2, p.small 3)

    pub loaded-four : Loaded 2 s at x → Loaded 2 s (at + 2) y → Loaded 4 s at (x + y * 65536)
    unfolding word
    loaded-four p q = record { is = omega (arith, p.is, q.is, later 2 0, later 2 1); small = p.small }

    pub loaded-eight : Loaded 4 s at x → Loaded 4 s (at + 4) y → Loaded 8 s at (x + y * 4294967296)
    unfolding word
    loaded-eight p q = record { is = omega (arith, p.is, q.is, later 4 0, later 4 1, later 4 2, later 4 3); small = p.small }
