-- The number of a name, and the names of a number.
use mathlib.Core.Path.{◌≡◌, refl, sym, ap, ◌∙◌}
use mathlib.Core.Bool.{Bool, true, false}
use mathlib.Core.List.{List, [], ◌∷◌, map}
use Prim.Native.Nat.{ℕ, ◌≤◌, ◌<◌}
use native.Mathlib.Omega.{arith}
use lib.Dec.{eqb, ltb}
use lib.ListN.{length, get_or-eq_default}
use borrow.Author.Tests.{eqb-true, eqb-false, eq-eqb, ne_eqb, ltb-true, ltb-false, lt-ltb, le-ltb}
use Rattle.text.specs.Choice.{pick}
use Rattle.text.specs.Bytes.{Bytes, ascii, same, any, all, keep}
use Rattle.text.proofs.Cases.{by_bool, not-both, by_below}
use Rattle.text.proofs.Lists.{all_head, all_tail}
use Rattle.text.proofs.Same.{same_true, same-eq, differ_same}
use Rattle.convert.specs.Table.{maps}
use Rattle.convert_entry.specs.Rows.{form_number}
use Rattle.class_properties.specs.Names.{Named, named, names, number_in, name_number, types_of, form_of}

abbrev word_of : Named → Bytes
word_of (named w k) = w

abbrev number_of : Named → ℕ
number_of (named w k) = k

-- the words of a number
unfoldable pub words_of : ℕ → List Named → List Bytes
words_of k [] = []
words_of k (named w j ∷ ns) = pick (eqb j k) (w ∷ words_of k ns) (words_of k ns)

-- ---- from a name to its number

pub number_is : (n w : Bytes) (k : ℕ) → name_number w ≡ k → same n w ≡ true → k ≡ name_number n
number_is n w k e h = sym e ∙ ap name_number (sym (same_true n w h))

-- names of different numbers differ
pub number-differs : (n w : Bytes) → eqb (name_number n) (name_number w) ≡ false → same n w ≡ false
number-differs n w h = differ_same n w (λ e. eqb-false (name_number n) (name_number w) h (ap name_number e))

-- ---- the table, name by name

pub number-version : name_number (ascii "version") ≡ 1
unfolding name_number number_in same
number-version = refl

pub number-uid : name_number (ascii "uid") ≡ 2
unfolding name_number number_in same
number-uid = refl

pub number-kind : name_number (ascii "kind") ≡ 3
unfolding name_number number_in same
number-kind = refl

pub number-fn : name_number (ascii "fn") ≡ 4
unfolding name_number number_in same
number-fn = refl

pub number-n : name_number (ascii "n") ≡ 5
unfolding name_number number_in same
number-n = refl

pub number-jsprop : name_number (ascii "jsprop") ≡ 6
unfolding name_number number_in same
number-jsprop = refl

pub number-nickname : name_number (ascii "nickname") ≡ 16
unfolding name_number number_in same
number-nickname = refl

pub number-email : name_number (ascii "email") ≡ 17
unfolding name_number number_in same
number-email = refl

pub number-tel : name_number (ascii "tel") ≡ 18
unfolding name_number number_in same
number-tel = refl

pub number-url : name_number (ascii "url") ≡ 19
unfolding name_number number_in same
number-url = refl

pub number-note : name_number (ascii "note") ≡ 20
unfolding name_number number_in same
number-note = refl

pub number-title : name_number (ascii "title") ≡ 21
unfolding name_number number_in same
number-title = refl

pub number-role : name_number (ascii "role") ≡ 21
unfolding name_number number_in same
number-role = refl

pub number-org : name_number (ascii "org") ≡ 22
unfolding name_number number_in same
number-org = refl

-- ---- by length

abbrev long : ℕ → Named → Bool
long k c = eqb (length (word_of c)) k

not-long : (n w : Bytes) (k : ℕ) → length n ≡ k → eqb (length w) k ≡ false → same n w ≡ false
not-long n w k e h = differ_same n w (λ p. eqb-false (length w) k h (ap length (sym p) ∙ e))

-- only the names of that length count
length-in : (ns : List Named) (n : Bytes) (k : ℕ) → length n ≡ k → number_in ns n ≡ number_in (keep (long k) ns) n
unfolding number_in keep
length-in [] n k e = refl
length-in (named w j ∷ ns) n k e =
    by_bool (eqb (length w) k)
    (λ h. rw (h, length-in ns n k e))
    (λ h. rw (h, not-long n w k e h, length-in ns n k e))

pub no-three : (n : Bytes) → length n ≡ 3 → same n (ascii "tel") ≡ false → same n (ascii "url") ≡ false → same n (ascii "org") ≡ false → same n (ascii "uid") ≡ false → 0 ≡ name_number n
unfolding name_number number_in keep
no-three n e a b c d = sym (length-in names n 3 e ∙ rw (a, b, c, d))

pub no-four : (n : Bytes) → length n ≡ 4 → same n (ascii "note") ≡ false → same n (ascii "role") ≡ false → same n (ascii "kind") ≡ false → 0 ≡ name_number n
unfolding name_number number_in keep
no-four n e a b c = sym (length-in names n 4 e ∙ rw (a, b, c))

pub no-five : (n : Bytes) → length n ≡ 5 → same n (ascii "email") ≡ false → same n (ascii "title") ≡ false → 0 ≡ name_number n
unfolding name_number number_in keep
no-five n e a b = sym (length-in names n 5 e ∙ rw (a, b))

-- none of another length, and of no other
pub no_name : (n : Bytes) → (length n ≡ 3 → ⊥) → (length n ≡ 5 → ⊥) → (length n ≡ 4 → ⊥)
    → same n (ascii "n") ≡ false → same n (ascii "fn") ≡ false → same n (ascii "version") ≡ false → same n (ascii "nickname") ≡ false → same n (ascii "jsprop") ≡ false
    → 0 ≡ name_number n
unfolding name_number number_in
no_name n x y z a b c d e =
    let off : (w : Bytes) → (length n ≡ length w → ⊥) → same n w ≡ false = λ w h. differ_same n w (λ p. h (ap length p)) in
    sym
    (rw (a, b, c, d, e, off (ascii "uid") x, off (ascii "kind") z, off (ascii "email") y, off (ascii "tel") x, off (ascii "url") x, off (ascii "note") z, off (ascii "title") y, off (ascii "role") z, off (ascii "org") x))

-- ---- from a number to its names

words-in : (ns : List Named) (n : Bytes) (k : ℕ) → 0 < k → number_in ns n ≡ k → any (same n) (words_of k ns) ≡ true
unfolding number_in words_of any
words-in [] n k l e = absurd (omega arith)
words-in (named w j ∷ ns) n k l e =
    by_bool (same n w)
    (λ h. let is : j ≡ k = rw h at e in rw (eq-eqb j k is, h))
    (λ h. let more : number_in ns n ≡ k = rw h at e in by_bool (eqb j k) (λ q. rw (q, h) (words-in ns n k l more)) (λ q. rw q (words-in ns n k l more)))

pub words-of : (n : Bytes) (k : ℕ) → 0 < k → name_number n ≡ k → any (same n) (words_of k names) ≡ true
unfolding name_number
words-of n k l e = words-in names n k l e

first_of : (n w : Bytes) → any (same n) (w ∷ []) ≡ true → same n w ≡ true
unfolding any
first_of n w h = by_bool (same n w) (λ e. e) (λ e. let z : false ≡ true = rw e at h in not-both z refl)

-- the one name of a number
pub sole-word : (n w : Bytes) (k : ℕ) → words_of k names ≡ w ∷ [] → 0 < k → name_number n ≡ k → n ≡ w
sole-word n w k is l e = same_true n w (first_of n w (ap (any (same n)) (sym is) ∙ words-of n k l e))

-- the name has the number exactly where it is that word
pub is_word : (n w : Bytes) (k : ℕ) → words_of k names ≡ w ∷ [] → 0 < k → name_number w ≡ k → same n w ≡ eqb (name_number n) k
is_word n w k is l e =
    by_bool (eqb (name_number n) k)
    (λ h. same-eq (sole-word n w k is l (eqb-true (name_number n) k h)) ∙ sym h)
    (λ h. number-differs n w (rw e h) ∙ sym h)

-- ---- which numbers there are

all-numbers : (p : ℕ → Bool) (ns : List Named) (n : Bytes) → p 0 ≡ true → all (λ c. p (number_of c)) ns ≡ true → p (number_in ns n) ≡ true
unfolding number_in
all-numbers p [] n z h = z
all-numbers p (named w k ∷ ns) n z h =
    by_bool (same n w)
    (λ e. rw e (all_head (λ c. p (number_of c)) (named w k) ns h))
    (λ e. rw e (all-numbers p ns n z (all_tail (λ c. p (number_of c)) (named w k) ns h)))

pub number_bound : (n : Bytes) → name_number n < 23
unfolding name_number all
number_bound n = ltb-true (name_number n) 23 (all-numbers (λ k. ltb k 23) names n refl refl)

-- from 7 to 15 there is none
pub number_small : (n : Bytes) → name_number n < 16 → name_number n < 7
unfolding name_number all
number_small n l =
    let h : pick (ltb (name_number n) 16) (ltb (name_number n) 7) true ≡ true = all-numbers (λ k. pick (ltb k 16) (ltb k 7) true) names n refl refl in
    ltb-true (name_number n) 7 (rw (lt-ltb (name_number n) 16 l) at h)

-- ---- the rows of the maps, as code has them

pub types-is : (i : ℕ) → types_of i ≡ pick (eqb i 2) 9 (pick (ltb i 4) 2 0)
unfolding types_of
types-is i = by_below types_of (λ i. pick (eqb i 2) 9 (pick (ltb i 4) 2 0)) i 7 refl (λ h. past-types i (ltb-false i 7 h))
  where
    past-types : (i : ℕ) → 7 ≤ i → types_of i ≡ pick (eqb i 2) 9 (pick (ltb i 4) 2 0)
    past-types i h = rw (ne_eqb i 2 (λ e. omega arith), le-ltb i 4 (omega arith)) (get_or-eq_default (map (λ m. m.types) maps) 0 h)

pub form-is : (i : ℕ) → form_of i ≡ pick (eqb i 0) 1 (pick (eqb i 2) 3 (pick (eqb i 3) 2 (pick (eqb i 6) 4 0)))
unfolding form_of
form-is i = by_below form_of (λ i. pick (eqb i 0) 1 (pick (eqb i 2) 3 (pick (eqb i 3) 2 (pick (eqb i 6) 4 0)))) i 7 refl (λ h. past-forms i (ltb-false i 7 h))
  where
    past-forms : (i : ℕ) → 7 ≤ i → form_of i ≡ pick (eqb i 0) 1 (pick (eqb i 2) 3 (pick (eqb i 3) 2 (pick (eqb i 6) 4 0)))
    past-forms i h =
        rw (ne_eqb i 0 (λ e. omega arith), ne_eqb i 2 (λ e. omega arith), ne_eqb i 3 (λ e. omega arith), ne_eqb i 6 (λ e. omega arith))
        (get_or-eq_default (map (λ m. form_number m.form) maps) 0 h)
