-- Letter case, and equality byte by byte.
use mathlib.Core.Path.{◌≡◌, refl, sym, ap, ◌∙◌}
use mathlib.Core.Bool.{Bool, true, false, ◌&&◌}
use mathlib.Core.List.{[], ◌∷◌, map}
use Prim.Native.Nat.{ℕ, zero, suc, ◌+◌, ◌≤◌, ◌<◌}
use native.Mathlib.Omega.{arith}
use native.Mathlib.Numerals.{add-one}
use lib.Dec.{eqb, ltb}
use lib.ListN.{length, drop, get_or, drop_of_length-le, length-map}
use lib.Seq.{drop-cons}
use borrow.Author.Tests.{le-leb, lt-leb, eq-eqb, ne_eqb, eqb-true, ltb-true, ltb-false}
use Rattle.std.specs.Prelude.{IsTrue, ◌↔◌, ◌==◌}
use Rattle.std.specs.Char.{to_ascii_lowercase, to_ascii_uppercase}
use Rattle.std.specs.List.{list_all, zip}
use Rattle.text.proofs.Cases.{by_bool, not-both, and_left, and_right}
use Rattle.text.specs.Bytes.{Bytes, between, lower, upper, lowered, same}

-- ---- one letter

pub lower-is : (c : ℕ) → to_ascii_lowercase c ≡ lower c
unfolding lower between
lower-is c =
    by_bool (ltb c 65)
    (λ e. rw (e, lt-leb 65 c (ltb-true c 65 e)))
    (λ e. by_bool (ltb c 91)
    (λ f. rw (e, f, le-leb 65 c (ltb-false c 65 e), le-leb c 90 (omega (arith, ltb-true c 91 f))))
    (λ f. rw (e, f, le-leb 65 c (ltb-false c 65 e), lt-leb c 90 (omega (arith, ltb-false c 91 f)))))

pub upper-is : (c : ℕ) → to_ascii_uppercase c ≡ upper c
unfolding upper between
upper-is c =
    by_bool (ltb c 97)
    (λ e. rw (e, lt-leb 97 c (ltb-true c 97 e)))
    (λ e. by_bool (ltb c 123)
    (λ f. rw (e, f, le-leb 97 c (ltb-false c 97 e), le-leb c 122 (omega (arith, ltb-true c 123 f))))
    (λ f. rw (e, f, le-leb 97 c (ltb-false c 97 e), lt-leb c 122 (omega (arith, ltb-false c 123 f)))))

-- ---- equal bytes

and-false : (b : Bool) → (b && false) ≡ false
and-false true = refl
and-false false = refl

pub same-longer : (s t : Bytes) → (length s ≡ length t → ⊥) → same s t ≡ false
unfolding same
same-longer [] [] n = absurd (n refl)
same-longer [] (y ∷ t) n = refl
same-longer (x ∷ s) [] n = refl
same-longer (x ∷ s) (y ∷ t) n = rw (same-longer s t (λ e. n (ap suc e))) (and-false (eqb x y))

-- one byte of both, or none
pub same-one : (s t : Bytes) (i : ℕ) → i < length s → i < length t → get_or s i 0 ≡ get_or t i 0 → same (drop i s) (drop i t) ≡ same (drop (i + 1) s) (drop (i + 1) t)
unfolding same
same-one s t i h l e = rw (drop-cons s i 0 h, drop-cons t i 0 l, eq-eqb _ _ e, add-one)

pub same_not : (s t : Bytes) (i : ℕ) → i < length s → i < length t → (get_or s i 0 ≡ get_or t i 0 → ⊥) → same (drop i s) (drop i t) ≡ false
unfolding same
same_not s t i h l e = rw (drop-cons s i 0 h, drop-cons t i 0 l, ne_eqb _ _ e)

pub same_out : (s t : Bytes) (i : ℕ) → length s ≤ i → length t ≤ i → same (drop i s) (drop i t) ≡ true
unfolding same
same_out s t i h l = rw (drop_of_length-le s h, drop_of_length-le t l)

-- ---- of names in lower case

pub lowered-length : (s : Bytes) → length (lowered s) ≡ length s
unfolding lowered
lowered-length s = length-map s lower

pub lowered-at : (s : Bytes) (i : ℕ) → i < length s → get_or (lowered s) i 0 ≡ lower (get_or s i 0)
unfolding lowered
lowered-at (c ∷ s) zero h = refl
lowered-at (c ∷ s) (suc i) h = lowered-at s i (omega arith)
lowered-at [] i h = absurd (omega arith)

-- byte by byte, of two that are equally long
pub named-by-pairs : (s name : Bytes) → length s ≡ length name → list_all (λ p. to_ascii_lowercase p.0 == p.1) (zip s name) ≡ same (lowered s) name
unfolding same lowered
named-by-pairs [] [] e = refl
named-by-pairs [] (d ∷ name) e = absurd (omega arith)
named-by-pairs (c ∷ s) [] e = absurd (omega arith)
named-by-pairs (c ∷ s) (d ∷ name) e = rw (lower-is c) (ap (λ b. eqb (lower c) d && b) (named-by-pairs s name (omega arith)))

std-lowered : (s : Bytes) → map to_ascii_lowercase s ≡ lowered s
unfolding lowered
std-lowered [] = refl
std-lowered (c ∷ s) = rw (lower-is c) (ap (λ t. lower c ∷ t) (std-lowered s))

same-refl : (s : Bytes) → same s s ≡ true
unfolding same
same-refl [] = refl
same-refl (c ∷ s) = rw (eq-eqb c c refl) (same-refl s)

same-equal : (s t : Bytes) → same s t ≡ true → s ≡ t
unfolding same
same-equal [] [] e = refl
same-equal [] (d ∷ t) e = absurd (not-both e refl)
same-equal (c ∷ s) [] e = absurd (not-both e refl)
same-equal (c ∷ s) (d ∷ t) e =
    let p : c ≡ d = eqb-true c d (and_left _ _ e) in
    rw p (ap (λ u. d ∷ u) (same-equal s t (and_right (eqb c d) _ e)))

-- std says when two names are one, and the definition how that is found out
pub same-by-std : (r : Bool) (a b : Bytes) → (IsTrue r ↔ (map to_ascii_lowercase a ≡ map to_ascii_lowercase b)) → r ≡ same (lowered a) (lowered b)
same-by-std r a b h =
    by_bool r
    (λ e. let f : lowered a ≡ lowered b = sym (std-lowered a) ∙ h.0 e ∙ std-lowered b in rw (e, f) (sym (same-refl (lowered b))))
    (λ e. by_bool (same (lowered a) (lowered b))
    (λ f. not-both (h.1 (std-lowered a ∙ same-equal (lowered a) (lowered b) f ∙ sym (std-lowered b))) e)
    (λ f. e ∙ sym f))
