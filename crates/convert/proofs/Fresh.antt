-- A made key is not used, and its number is the least such.
use mathlib.Core.Path.{◌≡◌, refl, sym, ap, ◌∙◌}
use mathlib.Core.Bool.{true, false}
use mathlib.Core.List.{List, [], ◌∷◌, ◌++◌, tail-eq_of_cons-eq}
use Prim.Native.Nat.{ℕ, zero, suc, ◌≤◌, ◌<◌}
use native.Mathlib.Omega.{arith}
use lib.ListN.{length}
use lib.Dec.{eqb}
use borrow.Author.Tests.{eqb-true}
use Rattle.text.specs.Choice.{pick}
use Rattle.text.specs.Bytes.{Bytes, any, same, among, empty}
use Rattle.text.specs.Decimal.{decimal}
use Rattle.text.proofs.Cases.{by_bool, tests, not-both}
use Rattle.text.proofs.Same.{same_true, differ_same}
use Rattle.text.proofs.Decimals.{decimal_injective}
use Rattle.convert.specs.Keys.{numbered, fresh_from, fresh}

-- ---- numbered keys differ

same_end : (p s t : Bytes) → p ++ s ≡ p ++ t → s ≡ t
same_end [] s t e = e
same_end (c ∷ p) s t e = same_end p s t (tail-eq_of_cons-eq e)

pub numbered-injective : (p : Bytes) (m n : ℕ) → numbered p m ≡ numbered p n → m ≡ n
unfolding numbered
numbered-injective p m n e = decimal_injective (tail-eq_of_cons-eq (same_end p (45 ∷ decimal m) (45 ∷ decimal n) e))

-- ---- all numbers before it are used

-- the number of the key that is made
unfoldable pub number_from : ℕ → Bytes → ℕ → List Bytes → ℕ
number_from zero p n used = n
number_from (suc f) p n used =
    let later : ℕ = number_from f p (suc n) used in
    pick (among (numbered p n) used) later n

pub fresh-numbered : (f : ℕ) (p : Bytes) (n : ℕ) (used : List Bytes) → fresh_from f p n used ≡ numbered p (number_from f p n used)
unfolding fresh_from number_from
fresh-numbered zero p n used = refl
fresh-numbered (suc f) p n used = by_bool (among (numbered p n) used) (λ e. rw e (fresh-numbered f p (suc n) used)) (λ e. rw e)

pub least : (f : ℕ) (p : Bytes) (n m : ℕ) (used : List Bytes) → n ≤ m → m < number_from f p n used → among (numbered p m) used ≡ true
unfolding number_from
least zero p n m used l h = absurd (omega arith)
least (suc f) p n m used l h =
    by_bool (among (numbered p n) used)
    (λ e. by_bool (eqb m n) (λ q. rw (eqb-true m n q) e) (λ q. least f p (suc n) m used (omega tests) (rw e at h)))
    (λ e. let k : m < n = rw e at h in absurd (omega arith))

-- ---- it is not used: keys can block no more numbers than there are keys

-- without the first of them that is k
abbrev del : Bytes → List Bytes → List Bytes
del k [] = []
del k (x ∷ l) = pick (same k x) l (x ∷ del k l)

del-among : (k m : Bytes) (l : List Bytes) → same m k ≡ false → among m (del k l) ≡ among m l
unfolding among any
del-among k m [] e = refl
del-among k m (x ∷ l) e = by_bool (same k x) (λ q. rw (q, ← same_true k x q, e)) (λ q. rw (q, del-among k m l e))

del-length : (k : Bytes) (l : List Bytes) → among k l ≡ true → length l ≡ suc (length (del k l))
unfolding among any
del-length k [] e = not-both refl (sym e)
del-length k (x ∷ l) e = by_bool (same k x) (λ q. rw q) (λ q. rw q (ap suc (del-length k l (rw q at e))))

other-number : (p : Bytes) (m n : ℕ) → (m ≡ n → ⊥) → same (numbered p m) (numbered p n) ≡ false
other-number p m n h = differ_same (numbered p m) (numbered p n) (λ e. h (numbered-injective p m n e))

-- left: what is left of used when the keys of numbers below n are taken out, one of each
unused : (f : ℕ) (p : Bytes) (n : ℕ) (used left : List Bytes) → ((m : ℕ) → n ≤ m → among (numbered p m) used ≡ among (numbered p m) left) → length left ≤ f
    → among (numbered p (number_from f p n used)) used ≡ false
unfolding number_from among any
unused zero p n used [] h l = h n (omega arith)
unused zero p n used (x ∷ left) h l = absurd (omega arith)
unused (suc f) p n used left h l =
    by_bool (among (numbered p n) used)
    (λ e. rw e (unused f p (suc n) used (del (numbered p n) left) (λ m a. h m (omega arith) ∙ sym (del-among (numbered p n) (numbered p m) left (other-number p m n (omega arith)))) (omega (arith, del-length (numbered p n) left (sym (h n (omega arith)) ∙ e)))))
    (λ e. rw (e, e))

pub fresh-unused : (p : Bytes) (used : List Bytes) → among (fresh p used) used ≡ false
unfolding fresh
fresh-unused p used = rw (fresh-numbered (length used) p 1 used) (unused (length used) p 1 used used (λ m a. refl) (omega arith))

-- every positive number before it is used
pub fresh-least : (p : Bytes) (used : List Bytes) (m : ℕ) → 1 ≤ m → m < number_from (length used) p 1 used → among (numbered p m) used ≡ true
fresh-least p used m l h = least (length used) p 1 m used l h

numbered-filled : (p : Bytes) (n : ℕ) → empty (numbered p n) ≡ false
unfolding numbered
numbered-filled [] n = refl
numbered-filled (c ∷ p) n = refl

pub fresh-filled : (p : Bytes) (used : List Bytes) → empty (fresh p used) ≡ false
unfolding fresh
fresh-filled p used = rw (fresh-numbered (length used) p 1 used) (numbered-filled p (number_from (length used) p 1 used))
