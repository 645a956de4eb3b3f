-- Laws of comparing decoded strings, over plain values.
use mathlib.Core.Path.{◌≡◌, refl, sym, ap, ◌∙◌}
use mathlib.Core.Bool.{true, false}
use mathlib.Core.Logic.{⊎_elim}
use mathlib.Core.List.{[], ◌∷◌}
use mathlib.Core.Option.{Option, none, some}
use Prim.Native.Nat.{ℕ, ◌+◌, ◌≤◌, ◌<◌}
use native.Mathlib.Nat.{eq-or-lt_of_le}
use native.Mathlib.Numerals.{add-one}
use native.Mathlib.Omega.{arith}
use lib.ListN.{length, get_or, drop, drop_of_length-le}
use lib.Seq.{drop-cons}
use lib.Dec.{eqb}
use borrow.Author.Tests.{eq-eqb, ne_eqb, eqb-true, eqb-false}
use Rattle.text.specs.Choice.{is_some}
use Rattle.text.specs.Bytes.{Bytes, same, between}
use Rattle.text.specs.Places.{byte_at}
use Rattle.text.specs.Utf8.{encode}
use Rattle.text.proofs.Cases.{by_bool, between-true, below}
use Rattle.json_text.specs.Strings.{before}
use Rattle.json_strings.specs.declared.Letter.{Letter}
use Rattle.json_strings.specs.declared.Letter.TheVariants.{Raw, Code, End, Alone}
use Rattle.json_strings.specs.declared.Byte.{Byte}
use Rattle.json_strings.specs.declared.Byte.TheVariants.{One}
use Rattle.json_strings.proofs.NextByte.{is_one}
use Rattle.json_strings.specs.Decoded.{decoded_at, letter_of, left, byte_of, spells, agree}
use Rattle.json_strings.proofs.Laws.{quote-at, bare-at, nothing-at}

paired-on : (p : Bytes) (x : Option Bytes) → is_some (before p x) ≡ is_some x
paired-on p none = refl
paired-on p (some y) = refl

-- what the next character of a string tells
module _ (s : Bytes) {x : Option Bytes} {r : Letter} (q : x ≡ letter_of s r) where
  pub letter-alone : r ≡ Alone → is_some x ≡ false
  letter-alone e = ap is_some (q ∙ ap (letter_of s) e)

  pub letter-end : r ≡ End → is_some x ≡ true
  letter-end e = ap is_some (q ∙ ap (letter_of s) e)

  pub letter-raw : {b j : ℕ} → r ≡ Raw b j → is_some x ≡ is_some (decoded_at s j)
  letter-raw {b} {j} e = ap is_some (q ∙ ap (letter_of s) e) ∙ paired-on (b ∷ []) (decoded_at s j)

  pub letter-code : {v j : ℕ} → r ≡ Code v j → is_some x ≡ is_some (decoded_at s j)
  letter-code {v} {j} e = ap is_some (q ∙ ap (letter_of s) e) ∙ paired-on (encode v) (decoded_at s j)

-- ---- with given bytes
pub spells-end : (bs : Bytes) (k : ℕ) → k ≤ length bs → eqb k (length bs) ≡ spells (some []) (drop k bs)
unfolding same
spells-end bs k l =
    ⊎_elim (λ h. eq-eqb _ _ h ∙ rw (drop_of_length-le bs {i = k} (omega arith)))
    (λ h. let n : (k ≡ length bs → ⊥) = omega arith in ne_eqb _ _ n ∙ rw (drop-cons bs k 0 h)) (eq-or-lt_of_le l)

spells-short : (bs : Bytes) (k b : ℕ) (x : Option Bytes) → k ≡ length bs → spells (before (b ∷ []) x) (drop k bs) ≡ false
unfolding same
spells-short bs k b none q = refl
spells-short bs k b (some y) q = rw (drop_of_length-le bs {i = k} (omega arith))

spells-other : (bs : Bytes) (k b : ℕ) (x : Option Bytes) → k < length bs → (get_or bs k 0 ≡ b → ⊥) → spells (before (b ∷ []) x) (drop k bs) ≡ false
unfolding same
spells-other bs k b none l n = refl
spells-other bs k b (some y) l n = rw (drop-cons bs k 0 l, ne_eqb _ _ n)

spells-on : (bs : Bytes) (k b : ℕ) (x : Option Bytes) → k < length bs → get_or bs k 0 ≡ b → spells (before (b ∷ []) x) (drop k bs) ≡ spells x (drop (k + 1) bs)
unfolding same
spells-on bs k b none l q = refl
spells-on bs k b (some y) l q = rw (drop-cons bs k 0 l, eq-eqb _ _ q, add-one k)

-- ---- by the byte at a place, which is no backslash
module _ (s : Bytes) (i b : ℕ) (e : b ≡ byte_at s i) (m : b ≡ 92 → ⊥) where
  pub bare-paired : (b ≡ 34 → ⊥) → 32 ≤ b → b < 256 → is_some (decoded_at s i) ≡ is_some (decoded_at s (i + 1))
  bare-paired n l h = ap is_some (bare-at s i b e n m l h) ∙ paired-on (b ∷ []) (decoded_at s (i + 1))

  module _ (bs : Bytes) (k : ℕ) where
    as-spelled : {x : Option Bytes} → decoded_at s i ≡ x → spells (decoded_at s i) (drop k bs) ≡ spells x (drop k bs)
    as-spelled q = ap (λ (x : Option Bytes). spells x (drop k bs)) q

    -- whatever the byte is, once the quote is dealt with
    not-quote : (b ≡ 34 → ⊥) → ((x : Option Bytes) → spells (before (b ∷ []) x) (drop k bs) ≡ false) → spells (decoded_at s i) (drop k bs) ≡ false
    not-quote n f =
        by_bool (between 32 255 b) (λ r. let w = between-true 32 255 b r in as-spelled (bare-at s i b e n m w.0 (omega (arith, w.1))) ∙ f (decoded_at s (i + 1)))
        (λ r. as-spelled (nothing-at s i b e n m r))

    pub quote-spells : k ≤ length bs → b ≡ 34 → spells (decoded_at s i) (drop k bs) ≡ eqb k (length bs)
    quote-spells l q = as-spelled (quote-at s i b e q) ∙ sym (spells-end bs k l)

    pub bytes-end : k ≡ length bs → eqb b 34 ≡ spells (decoded_at s i) (drop k bs)
    bytes-end q =
        by_bool (eqb b 34) (λ h. h ∙ sym (quote-spells (omega arith) (eqb-true b 34 h) ∙ eq-eqb _ _ q))
        (λ h. h ∙ sym (not-quote (eqb-false b 34 h) (λ x. spells-short bs k b x q)))

    module _ (l : k < length bs) where
      pub quote-early : b ≡ 34 → spells (decoded_at s i) (drop k bs) ≡ false
      quote-early q = quote-spells (omega arith) q ∙ ne_eqb k (length bs) (λ z. omega arith)

      pub bare-other : (b ≡ get_or bs k 0 → ⊥) → spells (decoded_at s i) (drop k bs) ≡ false
      bare-other n = by_bool (eqb b 34) (λ h. quote-early (eqb-true b 34 h)) (λ h. not-quote (eqb-false b 34 h) (λ x. spells-other bs k b x l (λ z. n (sym z))))

      pub control-spells : b < 32 → spells (decoded_at s i) (drop k bs) ≡ false
      control-spells h = as-spelled (nothing-at s i b e (λ z. omega arith) m (below 32 255 b h))

      pub bare-same : (b ≡ 34 → ⊥) → 32 ≤ b → b < 256 → b ≡ get_or bs k 0 → spells (decoded_at s i) (drop k bs) ≡ spells (decoded_at s (i + 1)) (drop (k + 1) bs)
      bare-same n h g q = as-spelled (bare-at s i b e n m h g) ∙ spells-on bs k b (decoded_at s (i + 1)) l (sym q)

-- ---- with each other
pub agree-none : (x : Option Bytes) → agree x none ≡ false
agree-none none = refl
agree-none (some y) = refl

agree-end : (b : ℕ) (x : Option Bytes) → agree (some []) (before (b ∷ []) x) ≡ false
unfolding same
agree-end b none = refl
agree-end b (some y) = refl

agree-short : (b : ℕ) (x : Option Bytes) → agree (before (b ∷ []) x) (some []) ≡ false
unfolding same
agree-short b none = refl
agree-short b (some y) = refl

agree-other : (a b : ℕ) (x y : Option Bytes) → (a ≡ b → ⊥) → agree (before (a ∷ []) x) (before (b ∷ []) y) ≡ false
unfolding same
agree-other a b none y n = refl
agree-other a b (some x) none n = refl
agree-other a b (some x) (some y) n = rw (ne_eqb _ _ n)

agree_on : (a b : ℕ) (x y : Option Bytes) → a ≡ b → agree (before (a ∷ []) x) (before (b ∷ []) y) ≡ agree x y
unfolding same
agree_on a b none y q = refl
agree_on a b (some x) none q = refl
agree_on a b (some x) (some y) q = rw (eq-eqb _ _ q)

-- ---- what the next byte of a string tells: the laws that the proofs of code cite
module _ (s : Bytes) {x : Option Bytes} {r : Byte} (q : x ≡ byte_of s r) {b j g : ℕ} (e : r ≡ One b j g) where
  pub ends-one : agree (some []) x ≡ false
  ends-one = rw (is_one s q e) (agree-end b (left s j g))

  pub agree-ends : agree x (some []) ≡ false
  agree-ends = rw (is_one s q e) (agree-short b (left s j g))

  module _ (bs : Bytes) (k : ℕ) where
    pub one-short : k ≡ length bs → spells x (drop k bs) ≡ false
    one-short h = rw (is_one s q e) (spells-short bs k b (left s j g) h)

    pub one-other : k < length bs → (get_or bs k 0 ≡ b → ⊥) → spells x (drop k bs) ≡ false
    one-other l h = rw (is_one s q e) (spells-other bs k b (left s j g) l h)

    pub one_same : k < length bs → get_or bs k 0 ≡ b → spells x (drop k bs) ≡ spells (left s j g) (drop (k + 1) bs)
    one_same l h = rw (is_one s q e) (spells-on bs k b (left s j g) l h)

  module _ {y : Option Bytes} {w : Byte} (p : y ≡ byte_of s w) {c l h : ℕ} (d : w ≡ One c l h) where
    pub both-other : (b ≡ c → ⊥) → agree x y ≡ false
    both-other n = ap (agree x) (p ∙ ap (byte_of s) d) ∙ rw (is_one s q e) (agree-other b c (left s j g) (left s l h) n)

    pub both-same : b ≡ c → agree x y ≡ agree (left s j g) (left s l h)
    both-same n = ap (agree x) (p ∙ ap (byte_of s) d) ∙ rw (is_one s q e) (agree_on b c (left s j g) (left s l h) n)
