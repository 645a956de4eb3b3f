-- Digits that spell a number from 1 to 1024, and keys with such a number after the prefix and a hyphen.
use mathlib.Core.Path.{◌≡◌, refl, sym, ap, ◌∙◌}
use mathlib.Core.Bool.{Bool, true, false}
use mathlib.Core.List.{[], ◌∷◌, ◌++◌, append-nil}
use Prim.Native.Nat.{ℕ, zero, suc, ◌+◌, ◌-◌, ◌*◌, ◌/◌, ◌%◌, ◌≤◌, ◌<◌}
use native.Mathlib.Omega.{arith}
use native.Mathlib.Numerals.{add-one}
use lib.Dec.{eqb, leb}
use lib.ListN.{length, take, drop, get_or, length-append, length-drop, take-append-drop}
use lib.Seq.{take_all, take-suc, drop-cons, take_at}
use borrow.Author.Tests.{eqb-true, eqb-false, ne_eqb, eq-eqb, leb-true}
use Rattle.text.specs.Bytes.{Bytes, between, is_digit, all, same, flat}
use Rattle.text.specs.Decimal.{digits_before, decimal, value_from, number}
use Rattle.text.proofs.Cases.{by_bool, in_range, below, beyond, not-both}
use Rattle.text.proofs.Lists.{all_head, all_tail}
use Rattle.text.proofs.Same.{same_true, same-eq, differ_same, same_false}
use Rattle.text.proofs.Decimals.{decimal_injective, decimal-digits, number-decimal}
use Rattle.json_write.proofs.Digits.{one-digit, last-digit}
use Rattle.convert.specs.Keys.{numbered}
use Rattle.to_json_keys.specs.Taken.{Spells, Numbers}

-- ---- no number

none : (d : Bytes) → ((j : ℕ) → 1 ≤ j → j < 1025 → decimal j ≡ d → ⊥) → Spells d 0
none d h = record { low = omega arith; says = λ j a b. differ_same (decimal j) d (h j a b) ∙ sym (ne_eqb j 0 (omega arith)) }

first-digit : (j : ℕ) → 1 ≤ j → j < 1025 → between 49 57 (get_or (decimal j) 0 0) ≡ true
unfolding decimal digits_before between
first-digit j a b = in_range (λ j. between 49 57 (get_or (decimal j) 0 0)) (λ j. true) j 1 1024 refl a (omega arith)

no-first : (d : Bytes) → between 49 57 (get_or d 0 0) ≡ false → Spells d 0
no-first d f = none d (λ j a b e. not-both (first-digit j a b) (ap (λ x. between 49 57 (get_or x 0 0)) e ∙ f))

nothing-at : (d : Bytes) → length d ≡ 0 → get_or d 0 0 ≡ 0
nothing-at [] e = refl
nothing-at (x ∷ d) e = absurd (omega (arith, e))

pub spells-empty : (d : Bytes) → length d ≡ 0 → Spells d 0
spells-empty d e = no-first d (ap (between 49 57) (nothing-at d e) ∙ below 49 57 0 (omega arith))

pub spells-low : (d : Bytes) → get_or d 0 0 < 49 → Spells d 0
spells-low d h = no-first d (below 49 57 (get_or d 0 0) h)

pub spells-high : (d : Bytes) → 57 < get_or d 0 0 → Spells d 0
spells-high d h = no-first d (beyond 49 57 (get_or d 0 0) h)

digit_at : (d : Bytes) (i : ℕ) → i < length d → all is_digit d ≡ true → is_digit (get_or d i 0) ≡ true
digit_at [] i h e = absurd (omega arith)
digit_at (x ∷ d) zero h e = all_head is_digit x d e
digit_at (x ∷ d) (suc i) h e = digit_at d i (omega arith) (all_tail is_digit x d e)

no_digit : (d : Bytes) (i : ℕ) → i < length d → is_digit (get_or d i 0) ≡ false → Spells d 0
no_digit d i h f = none d (λ j a b e. not-both (digit_at d i h (ap (all is_digit) (sym e) ∙ decimal-digits j)) f)

pub spells-below : (d : Bytes) (i : ℕ) → i < length d → get_or d i 0 < 48 → Spells d 0
spells-below d i h l = no_digit d i h (below 48 57 (get_or d i 0) l)

pub spells-above : (d : Bytes) (i : ℕ) → i < length d → 57 < get_or d i 0 → Spells d 0
spells-above d i h l = no_digit d i h (beyond 48 57 (get_or d i 0) l)

-- ---- digit by digit

pub one-read : (d : Bytes) (c : ℕ) → 0 < length d → c + 48 ≡ get_or d 0 0 → c < 10 → decimal c ≡ take 1 d
one-read [] c h e l = absurd (omega arith)
one-read (x ∷ d) c h e l = sym (one-digit c l) ∙ ap (λ y. y ∷ []) (let z : 48 + c ≡ x = omega (arith, e) in z)

two : (x y : Bytes) → flat (x ∷ y ∷ []) ≡ x ++ y
unfolding flat
two x y = ap (λ z. x ++ z) (append-nil y)

pub digit-read : (d : Bytes) (n c i : ℕ) → decimal n ≡ take i d → 1 ≤ n → i < length d → c + 48 ≡ get_or d i 0 → c < 10 → decimal (n * 10 + c) ≡ take (i + 1) d
digit-read d n c i e p h q l =
    let m : (n * 10 + c) / 10 ≡ n = omega arith in
    let r : 48 + (n * 10 + c) % 10 ≡ get_or d i 0 = omega (arith, q) in
    sym (last-digit (n * 10 + c) (omega arith))
    ∙ two (decimal ((n * 10 + c) / 10)) ((48 + (n * 10 + c) % 10) ∷ [])
    ∙ ap (λ x. decimal x ++ ((48 + (n * 10 + c) % 10) ∷ [])) m
    ∙ ap (λ x. decimal n ++ (x ∷ [])) r
    ∙ ap (λ x. x ++ (get_or d i 0 ∷ [])) e
    ∙ rw (add-one, take-suc d i 0)

value-append : (a : ℕ) (x y : Bytes) → value_from a (x ++ y) ≡ value_from (value_from a x) y
unfolding value_from
value-append a [] y = refl
value-append a (c ∷ x) y = value-append (a * 10 + (c - 48)) x y

value_grows : (a : ℕ) (s : Bytes) → a ≤ value_from a s
unfolding value_from
value_grows a [] = omega arith
value_grows a (c ∷ s) = omega (arith, value_grows (a * 10 + (c - 48)) s)

value-more : (a c : ℕ) (s : Bytes) → a * 10 ≤ value_from a (c ∷ s)
unfolding value_from
value-more a c s = omega (arith, value_grows (a * 10 + (c - 48)) s)

value-from : (d : Bytes) (n i : ℕ) → decimal n ≡ take i d → number d ≡ value_from n (drop i d)
unfolding number
value-from d n i e =
    ap (value_from 0) (sym (take-append-drop i d))
    ∙ value-append 0 (take i d) (drop i d)
    ∙ ap (λ x. value_from (value_from 0 x) (drop i d)) (sym e)
    ∙ ap (λ x. value_from x (drop i d)) (number-decimal n)

-- a further digit makes it too large
pub spells-longer : (d : Bytes) (n i : ℕ) → decimal n ≡ take i d → i < length d → 102 < n → Spells d 0
spells-longer d n i e h l =
    none d (λ j a b q.
    let v : j ≡ value_from n (drop i d) = sym (number-decimal j) ∙ ap number q ∙ value-from d n i e in
    let w : n * 10 ≤ value_from n (drop i d) = rw (drop-cons d i 0 h) (value-more n (get_or d i 0) (drop (suc i) d)) in
    omega (arith, v, w))

module _ (d : Bytes) (n i : ℕ) (e : decimal n ≡ take i d) (h : length d ≤ i) where
  whole : decimal n ≡ d
  whole = e ∙ take_all i d h

  pub spells-over : 1024 < n → Spells d 0
  spells-over l = none d (λ j a b q. let z : j ≡ n = decimal_injective (q ∙ sym whole) in omega (arith, z))

  pub spells-it : n ≤ 1024 → Spells d n
  spells-it l = record {
    low = omega arith;
    says = λ j a b.
        by_bool (eqb j n)
        (λ q. same-eq (ap decimal (eqb-true j n q) ∙ whole) ∙ sym q)
        (λ q. differ_same (decimal j) d (λ z. eqb-false j n q (decimal_injective (z ∙ sym whole))) ∙ sym q);
  }

-- ---- after the prefix and a hyphen

no_number : (p k : Bytes) → ((j : ℕ) → numbered p j ≡ k → ⊥) → Numbers p k 0
no_number p k h = record { low = omega arith; says = λ j a b. differ_same (numbered p j) k (h j) ∙ sym (ne_eqb j 0 (omega arith)) }

pub number_short : (p k : Bytes) → length k ≤ length p → Numbers p k 0
unfolding numbered
number_short p k h = no_number p k (λ j e. omega (arith, simp length-append at (ap length e)))

pub number-other : (p k : Bytes) → same p (take (length p) k) ≡ false → Numbers p k 0
unfolding numbered
number-other p k f = no_number p k (λ j e. same_false p (take (length p) k) f (sym (ap (take (length p)) (sym e) ∙ take_at p (45 ∷ decimal j) (length p) refl)))

hyphen-at : (p s : Bytes) → get_or (p ++ 45 ∷ s) (length p) 0 ≡ 45
hyphen-at [] s = refl
hyphen-at (x ∷ p) s = hyphen-at p s

pub number-joined : (p k : Bytes) → (get_or k (length p) 0 ≡ 45 → ⊥) → Numbers p k 0
unfolding numbered
number-joined p k n = no_number p k (λ j e. n (ap (λ x. get_or x (length p) 0) (sym e) ∙ hyphen-at p (decimal j)))

same_after : (p s t : Bytes) → same (p ++ s) (p ++ t) ≡ same s t
unfolding same
same_after [] s t = refl
same_after (x ∷ p) s t = rw (eq-eqb x x refl) (same_after p s t)

same_next : (c : ℕ) (s t : Bytes) → same (c ∷ s) (c ∷ t) ≡ same s t
same_next c s t = same_after (c ∷ []) s t

pub number-after : (p k : Bytes) (r : ℕ) → same p (take (length p) k) ≡ true → get_or k (length p) 0 ≡ 45 → length p < length k → Spells (drop (length p + 1) k) r → Numbers p k r
unfolding numbered
number-after p k r e q l s =
    let d : Bytes = drop (length p + 1) k in
    let w : drop (length p) k ≡ 45 ∷ d = rw (add-one, drop-cons k (length p) 0 l, q) in
    let z : k ≡ p ++ (45 ∷ d) = sym (take-append-drop (length p) k) ∙ ap (λ x. x ++ drop (length p) k) (sym (same_true p (take (length p) k) e)) ∙ ap (λ x. p ++ x) w in
    record {
      low = s.low;
      says = λ j a b. ap (same (p ++ 45 ∷ decimal j)) z ∙ same_after p (45 ∷ decimal j) (45 ∷ d) ∙ same_next 45 (decimal j) d ∙ s.says j a b;
    }

-- the parts before and from a place
pub front_same : (p k : Bytes) (b : Bool) → b ≡ same p (take (length p - 0) k) → same p (take (length p) k) ≡ b
front_same p k b h = let z : length p - 0 ≡ length p = omega arith in sym (rw z at h)

pub rest-spells : (k : Bytes) (a r : ℕ) → Spells (take (length k - a) (drop a k)) r → Spells (drop a k) r
rest-spells k a r h = rw (take_all (length k - a) (drop a k) (omega (arith, length-drop a k))) at h

-- ---- a made key, written

pub key_row : (p : Bytes) (n : ℕ) → flat (p ∷ (45 ∷ []) ∷ decimal n ∷ []) ≡ numbered p n
unfolding flat numbered
key_row p n = ap (λ (x : Bytes). p ++ 45 ∷ x) (append-nil (decimal n))

four-digits : (n : ℕ) → n < 1025 → leb (length (decimal n)) 4 ≡ true
unfolding decimal digits_before
four-digits n l = in_range (λ n. leb (length (decimal n)) 4) (λ n. true) n 0 1025 refl (omega arith) l

pub key-short : (p : Bytes) (n : ℕ) → n < 1025 → length (numbered p n) ≤ length p + 5
unfolding numbered
key-short p n l = rw length-append (omega (arith, leb-true (length (decimal n)) 4 (four-digits n l)))
