-- One byte of a string, and one byte between brackets, by place.
use mathlib.Core.Path.{◌≡◌, refl, sym, ap, ◌∙◌}
use mathlib.Core.Bool.{Bool, true, false}
use mathlib.Core.List.{[], ◌∷◌, tail}
use Prim.Native.Nat.{ℕ, zero, suc, ◌+◌, ◌-◌, ◌≤◌, ◌<◌}
use native.Mathlib.Numerals.{add-one, sub-one}
use native.Mathlib.Omega.{arith}
use lib.ListN.{length, drop, get_or, length-drop, drop_of_length-le}
use lib.Dec.{eqb}
use borrow.Author.Tests.{eq-eqb, ne_eqb}
use Rattle.text.specs.Bytes.{Bytes}
use Rattle.text.specs.Reader.{first}
use Rattle.text.proofs.Cases.{by_bool}
use Rattle.text.proofs.Places.{byte-default, first-drop, tail-drop}
use Rattle.json_skip.specs.Skip.{quoted, opens, shuts, outside, inside, closed}

cons_of : (t : Bytes) → 0 < length t → t ≡ first t ∷ tail t
cons_of [] l = absurd (omega arith)
cons_of (c ∷ t) l = refl

-- what stands from a place on is its byte and the rest
pub opened : (s : Bytes) (i : ℕ) → i < length s → drop i s ≡ get_or s i 0 ∷ drop (i + 1) s
opened s i l = cons_of (drop i s) (omega (arith, length-drop i s)) ∙ rw (first-drop s i, tail-drop s i, byte-default s i 256 0 l)

nothing : (s : Bytes) (i : ℕ) → length s ≤ i → drop i s ≡ []
nothing s i l = drop_of_length-le s {i = i} l

-- ---- in a string

pub quoted-end : (t : Bytes) → quoted false (34 ∷ t) ≡ t
unfolding quoted
quoted-end t = refl

pub quoted-plain : (c : ℕ) (t : Bytes) → (c ≡ 34 → ⊥) → (c ≡ 92 → ⊥) → quoted false (c ∷ t) ≡ quoted false t
unfolding quoted
quoted-plain c t n m = rw (ne_eqb _ _ n, ne_eqb _ _ m)

pub quoted-backslash : (t : Bytes) → quoted false (92 ∷ t) ≡ quoted true t
unfolding quoted
quoted-backslash t = refl

pub quoted-escaped : (c : ℕ) (t : Bytes) → quoted true (c ∷ t) ≡ quoted false t
unfolding quoted
quoted-escaped c t = refl

quoted-escape : (c : ℕ) (t : Bytes) → quoted false (92 ∷ c ∷ t) ≡ quoted false t
unfolding quoted
quoted-escape c t = refl

quoted-short : quoted false (92 ∷ []) ≡ []
unfolding quoted
quoted-short = refl

quoted-none : (e : Bool) → quoted e [] ≡ []
unfolding quoted
quoted-none true = refl
quoted-none false = refl

module _ (s : Bytes) (i : ℕ) where
  pub string-none : length s ≤ i → quoted false (drop i s) ≡ drop i s
  string-none l = rw (nothing s i l) (quoted-none false)

  module _ (l : i < length s) where
    pub string-end : get_or s i 0 ≡ 34 → quoted false (drop i s) ≡ drop (i + 1) s
    string-end q = rw (opened s i l, q) (quoted-end (drop (i + 1) s))

    pub string-plain : (get_or s i 0 ≡ 34 → ⊥) → (get_or s i 0 ≡ 92 → ⊥) → quoted false (drop i s) ≡ quoted false (drop (i + 1) s)
    string-plain n m = rw (opened s i l) (quoted-plain (get_or s i 0) (drop (i + 1) s) n m)

    pub string-escape : get_or s i 0 ≡ 92 → i + 1 < length s → quoted false (drop i s) ≡ quoted false (drop (i + 2) s)
    string-escape q m =
        let k : i + 1 + 1 ≡ i + 2 = omega arith in
        ap (quoted false) (opened s i l ∙ ap (λ (x : ℕ). x ∷ drop (i + 1) s) q ∙ ap (λ (t : Bytes). 92 ∷ t) (opened s (i + 1) m)) ∙ quoted-escape _ _ ∙ ap (λ (x : ℕ). quoted false (drop x s)) k

    pub string-short : get_or s i 0 ≡ 92 → length s ≤ i + 1 → quoted false (drop i s) ≡ drop (length s) s
    string-short q m =
        ap (quoted false) (opened s i l ∙ ap (λ (x : ℕ). x ∷ drop (i + 1) s) q ∙ ap (λ (t : Bytes). 92 ∷ t) (nothing s (i + 1) m)) ∙ quoted-short ∙ sym (nothing s (length s) (omega arith))

-- ---- between brackets

-- what is left after n brackets are closed
abbrev pub left : ℕ → Bytes → Bytes
left zero = λ s. s
left (suc n) = closed outside n

-- a string between brackets is passed over
pub closed-string : (escaped : Bool) (n : ℕ) (s : Bytes) → closed (inside escaped) n s ≡ closed outside n (quoted escaped s)
unfolding closed quoted
closed-string true n [] = refl
closed-string false n [] = refl
closed-string true n (c ∷ s) = closed-string false n s
closed-string false n (c ∷ s) = by_bool (eqb c 34) (λ q. rw q) (λ q. rw q (closed-string (eqb c 92) n s))

closed_none : (n : ℕ) → closed outside n [] ≡ []
unfolding closed
closed_none n = refl

module _ (n : ℕ) (c : ℕ) (t : Bytes) where
  pub closed-quote : c ≡ 34 → closed outside n (c ∷ t) ≡ closed outside n (quoted false t)
  unfolding closed
  closed-quote q = rw (eq-eqb _ _ q) (closed-string false n t)

  module _ (m : c ≡ 34 → ⊥) where
    pub closed-open : opens c ≡ true → closed outside n (c ∷ t) ≡ closed outside (suc n) t
    unfolding closed
    closed-open q = rw (ne_eqb _ _ m, q)

    pub closed-plain : opens c ≡ false → shuts c ≡ false → closed outside n (c ∷ t) ≡ closed outside n t
    unfolding closed
    closed-plain p q = rw (ne_eqb _ _ m, p, q)

-- the bracket that closes, and one that closes another
pub closed-shut : (n c : ℕ) (t : Bytes) → (c ≡ 34 → ⊥) → opens c ≡ false → shuts c ≡ true → closed outside n (c ∷ t) ≡ left n t
unfolding closed
closed-shut zero c t m p q = rw (ne_eqb _ _ m, p, q)
closed-shut (suc n) c t m p q = let z : (suc n ≡ 0 → ⊥) = λ x. omega arith in rw (ne_eqb _ _ m, p, q, ne_eqb _ _ z, sub-one)

left-none : (n : ℕ) (t : Bytes) → n ≡ 0 → left n t ≡ t
left-none n t e = rw e

left-some : (n : ℕ) (t : Bytes) → (n ≡ 0 → ⊥) → left n t ≡ closed outside (n - 1) t
left-some zero t e = absurd (e refl)
left-some (suc n) t e = rw sub-one

-- a byte below the brackets is none
pub below-opens : (c : ℕ) → c < 91 → opens c ≡ false
unfolding opens
below-opens c l = let p : (c ≡ 91 → ⊥) = λ q. omega arith in let r : (c ≡ 123 → ⊥) = λ q. omega arith in rw (ne_eqb _ _ p, ne_eqb _ _ r)

pub below-shuts : (c : ℕ) → c < 91 → shuts c ≡ false
unfolding shuts
below-shuts c l = let p : (c ≡ 93 → ⊥) = λ q. omega arith in let r : (c ≡ 125 → ⊥) = λ q. omega arith in rw (ne_eqb _ _ p, ne_eqb _ _ r)

module _ (s : Bytes) (n i : ℕ) where
  pub brackets-none : length s ≤ i → closed outside n (drop i s) ≡ drop i s
  brackets-none l = rw (nothing s i l) (closed_none n)

  module _ (l : i < length s) where
    pub brackets-string : get_or s i 0 ≡ 34 → closed outside n (drop i s) ≡ closed outside n (quoted false (drop (i + 1) s))
    brackets-string q = rw (opened s i l) (closed-quote n (get_or s i 0) (drop (i + 1) s) q)

    module _ (m : get_or s i 0 ≡ 34 → ⊥) where
      pub brackets-open : opens (get_or s i 0) ≡ true → closed outside n (drop i s) ≡ closed outside (n + 1) (drop (i + 1) s)
      brackets-open q = rw (opened s i l, add-one n) (closed-open n (get_or s i 0) (drop (i + 1) s) m q)

      pub brackets-last : opens (get_or s i 0) ≡ false → shuts (get_or s i 0) ≡ true → n ≡ 0 → closed outside n (drop i s) ≡ drop (i + 1) s
      brackets-last p q z = rw (opened s i l) (closed-shut n (get_or s i 0) (drop (i + 1) s) m p q ∙ left-none n (drop (i + 1) s) z)

      pub brackets-shut : opens (get_or s i 0) ≡ false → shuts (get_or s i 0) ≡ true → (n ≡ 0 → ⊥) → closed outside n (drop i s) ≡ closed outside (n - 1) (drop (i + 1) s)
      brackets-shut p q z = rw (opened s i l) (closed-shut n (get_or s i 0) (drop (i + 1) s) m p q ∙ left-some n (drop (i + 1) s) z)

      pub brackets-plain : opens (get_or s i 0) ≡ false → shuts (get_or s i 0) ≡ false → closed outside n (drop i s) ≡ closed outside n (drop (i + 1) s)
      brackets-plain p q = rw (opened s i l) (closed-plain n (get_or s i 0) (drop (i + 1) s) m p q)
