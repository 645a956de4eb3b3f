-- Case analysis on a test and on a byte, without a case per byte.
use mathlib.Core.Path.{◌≡◌, refl, sym, ap, subst, ◌∙◌}
use mathlib.Core.Bool.{Bool, true, false, ◌&&◌, ◌||◌, not}
use mathlib.Core.List.{List, [], ◌∷◌, map, head-eq_of_cons-eq, tail-eq_of_cons-eq}
use Prim.Native.Nat.{ℕ, zero, suc, ◌+◌, ◌≤◌, ◌<◌}
use native.Mathlib.Omega.{arith}
use native.Mathlib.Nat.{lt_of_not-le}
use native.Mathlib.Decide.{dec_le}
use lib.Dec.{ltb, leb, eqb}
use borrow.Author.Tests.{eqb-true, eqb-false, ltb-true, ltb-false, leb-true, leb-false, lt-ltb, le-ltb, le-leb, lt-leb, eq-eqb, ne_eqb}
use Rattle.text.specs.Choice.{pick}
use Rattle.text.specs.Bytes.{between}

-- ---- tests

-- both values of a test, each with its equation: in each arm `rw e` puts the value for the test
pub by_bool {ℓ} : {P : Type ℓ} (b : Bool) → (b ≡ true → P) → (b ≡ false → P) → P
by_bool true t f = t refl
by_bool false t f = f refl

-- omega reads tests among the hypotheses (`omega tests`), and proves them too (`omega testing`)
pub ruleset tests = (arith, eqb-true, eqb-false, ltb-true, ltb-false, leb-true, leb-false)

pub ruleset testing = (tests, lt-ltb, le-ltb, le-leb, lt-leb, eq-eqb, ne_eqb)

abbrev Holds : Bool → Type 0
Holds true = Unit {0}
Holds false = ⊥

pub not-both {ℓ} : {P : Type ℓ} {b : Bool} → b ≡ true → b ≡ false → P
not-both e f = absurd (subst Holds (sym e ∙ f) tt)

pub and_left : (a b : Bool) → a && b ≡ true → a ≡ true
and_left true b e = refl
and_left false b e = e

pub and_right : (a b : Bool) → a && b ≡ true → b ≡ true
and_right true b e = e
and_right false b e = cc

pub and-true : {a b : Bool} → a ≡ true → b ≡ true → a && b ≡ true
and-true p q = cc

pub or_left : (a b : Bool) → a || b ≡ false → a ≡ false
or_left true b e = e
or_left false b e = refl

pub or_right : (a b : Bool) → a || b ≡ false → b ≡ false
or_right true b e = cc
or_right false b e = e

pub or-second : (a b : Bool) → b ≡ true → a || b ≡ true
or-second true b e = refl
or-second false b e = e

pub not-true : (a : Bool) → not a ≡ true → a ≡ false
not-true true e = cc
not-true false e = refl

pub not-false : (a : Bool) → not a ≡ false → a ≡ true
not-false true e = refl
not-false false e = cc

-- a byte that passes a test is no byte that does not
pub other : (p : ℕ → Bool) (c k : ℕ) → p c ≡ true → p k ≡ false → eqb c k ≡ false
other p c k h e = by_bool (eqb c k) (λ q. not-both (ap p (sym (eqb-true c k q)) ∙ h) e) (λ q. q)

-- ---- ranges

pub between-true : (lo hi c : ℕ) → between lo hi c ≡ true → (lo ≤ c) × (c ≤ hi)
unfolding between
between-true lo hi c e = (leb-true lo c (and_left _ _ e), leb-true c hi (and_right (leb lo c) _ e))

pub in_between : (lo hi c : ℕ) → lo ≤ c → c ≤ hi → between lo hi c ≡ true
unfolding between
in_between lo hi c p q = rw (le-leb lo c p, le-leb c hi q)

pub below : (lo hi c : ℕ) → suc c ≤ lo → between lo hi c ≡ false
unfolding between
below lo hi c p = rw (lt-leb lo c p)

pub beyond : (lo hi c : ℕ) → suc hi ≤ c → between lo hi c ≡ false
unfolding between
beyond lo hi c p = by_bool (leb lo c) (λ e. rw (e, lt-leb c hi p)) (λ e. rw e)

-- ---- bytes

-- c is none of the keys: the tests, as equations that rw, simp and cc take
abbrev pub NoneOf : ℕ → List ℕ → Type 0
NoneOf c [] = Unit {0}
NoneOf c (k ∷ ks) = (eqb c k ≡ false) × NoneOf c ks

-- n - 1, .., 1, 0
abbrev pub up_to : ℕ → List ℕ
up_to zero = []
up_to (suc n) = n ∷ up_to n

not-below : (c n : ℕ) → eqb c n ≡ false → ltb c n ≡ false → suc n ≤ c
not-below c n p q = let d : (c ≡ n → ⊥) = eqb-false c n p in omega (arith, ltb-false c n q)

module _ {ℓ} {A : Type ℓ} (F G : ℕ → A) (c : ℕ) where
  key : (k : ℕ) (b : Bool) → eqb c k ≡ b → F k ≡ G k → (eqb c k ≡ false → F c ≡ G c) → F c ≡ G c
  key k true q e h = rw (eqb-true c k q) e
  key k false q e h = h q

  -- two functions agree at a byte: at each key by computation (one refl for all of them), elsewhere by one argument
  pub by_keys : (ks : List ℕ) → map F ks ≡ map G ks → (NoneOf c ks → F c ≡ G c) → F c ≡ G c
  by_keys [] e h = h tt
  by_keys (k ∷ ks) e h = key k (eqb c k) refl (head-eq_of_cons-eq e) (λ q. by_keys ks (tail-eq_of_cons-eq e) (λ n. h (q, n)))

  -- the same for all the numbers below n
  pub by_below : (n : ℕ) → map F (up_to n) ≡ map G (up_to n) → (ltb c n ≡ false → F c ≡ G c) → F c ≡ G c
  by_below zero e h = h (le-ltb c 0 (omega arith))
  by_below (suc n) e h =
      key n (eqb c n) refl (head-eq_of_cons-eq e) (λ q. by_below n (tail-eq_of_cons-eq e) (λ l. h (le-ltb c (suc n) (not-below c n q l))))

-- one test follows from another: below n by computation, and from n on the first never holds
pub implied : (p q : ℕ → Bool) (n c : ℕ) → map (λ c. pick (p c) (q c) true) (up_to n) ≡ map (λ c. true) (up_to n) → (ltb c n ≡ false → p c ≡ false) → p c ≡ true → q c ≡ true
implied p q n c e off h =
    let r : pick (p c) (q c) true ≡ true = by_below (λ c. pick (p c) (q c) true) (λ c. true) c n e (λ l. rw (off l)) in
    rw h at r

-- the same for any statement about a byte
abbrev pub AllOf : (ℕ → Type 0) → List ℕ → Type 0
AllOf P [] = Unit {0}
AllOf P (k ∷ ks) = P k × AllOf P ks

module _ (P : ℕ → Type 0) (c : ℕ) where
  key_p : (k : ℕ) (b : Bool) → eqb c k ≡ b → P k → (eqb c k ≡ false → P c) → P c
  key_p k true q e h = rw (eqb-true c k q) e
  key_p k false q e h = h q

  pub by_keys_p : (ks : List ℕ) → AllOf P ks → (NoneOf c ks → P c) → P c
  by_keys_p [] e h = h tt
  by_keys_p (k ∷ ks) e h = key_p k (eqb c k) refl e.0 (λ q. by_keys_p ks e.1 (λ n. h (q, n)))

-- ---- numbers

-- two numbers, one way or the other
pub split {ℓ} : {P : Type ℓ} (a b : ℕ) → (a ≤ b → P) → (b < a → P) → P
split a b f g = elim (dec_le a b) [ yes h ↦ f h | no h ↦ g (lt_of_not-le h) ]

-- n numbers from lo on, the last one first
abbrev pub range : ℕ → ℕ → List ℕ
range lo zero = []
range lo (suc n) = (lo + n) ∷ range lo n

-- two functions agree at a number of a range: at each of them by computation
pub in_range {ℓ} : {A : Type ℓ} (F G : ℕ → A) (c lo n : ℕ) → map F (range lo n) ≡ map G (range lo n) → lo ≤ c → c < lo + n → F c ≡ G c
in_range F G c lo zero e h l = absurd (omega arith)
in_range F G c lo (suc n) e h l =
    key F G c (lo + n) (eqb c (lo + n)) refl (head-eq_of_cons-eq e)
    (λ q. in_range F G c lo n (tail-eq_of_cons-eq e) h (let d : (c ≡ lo + n → ⊥) = eqb-false c (lo + n) q in omega arith))
