-- The lists of bytes hold, by computation over all 256.
use mathlib.Core.Path.{◌≡◌, refl}
use mathlib.Core.Bool.{Bool, true}
use mathlib.Core.List.{[], ◌∷◌, map}
use Prim.Native.Nat.{ℕ}
use lib.Dec.{ltb}
use Rattle.text.specs.Bytes.{Bytes, any, all}
use Rattle.text.specs.Listed.{of_bytes, ListedText}
use Rattle.text.proofs.Opened.{text-opened}
use Rattle.text.proofs.Cases.{by_below, up_to, and_left, and_right, not-both}

pub text-listed : ListedText
unfolding text-opened
text-listed =
    record {
      digits = refl;
      uppers = refl;
      lowers = refl;
      letters = refl;
      made-lower = refl;
      made-upper = refl;
      decimals = refl;
      large = refl;
    }

-- ---- from all 256 bytes to every text of bytes

module _ (p q : ℕ → Bool) (e : map p (up_to 256) ≡ map q (up_to 256)) where
  pub byte-alike : (c : ℕ) → ltb c 256 ≡ true → p c ≡ q c
  byte-alike c h = by_below p q c 256 e (λ l. not-both h l)

  pub all_alike : (s : Bytes) → of_bytes s ≡ true → all p s ≡ all q s
  unfolding all
  all_alike [] h = refl
  all_alike (c ∷ s) h = rw (byte-alike c (and_left (ltb c 256) _ h), all_alike s (and_right (ltb c 256) _ h))

  pub any-alike : (s : Bytes) → of_bytes s ≡ true → any p s ≡ any q s
  unfolding any all
  any-alike [] h = refl
  any-alike (c ∷ s) h = rw (byte-alike c (and_left (ltb c 256) _ h), any-alike s (and_right (ltb c 256) _ h))
