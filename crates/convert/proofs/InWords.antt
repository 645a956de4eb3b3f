-- The tests in 01's words hold (specs/InWords.antt).
use mathlib.Core.Path.{◌≡◌, refl, sym, ap, ap₂}
use mathlib.Core.Bool.{Bool, true, false, ◌&&◌, not}
use mathlib.Core.List.{List, [], ◌∷◌, map}
use Prim.Native.Nat.{ℕ, suc, ◌+◌, ◌-◌, ◌*◌, ◌≤◌}
use native.Mathlib.Omega.{arith}
use lib.ListN.{length, take}
use lib.Dec.{eqb, leb}
use borrow.Author.Tests.{leb-true, le-leb, eqb-false}
use Rattle.text.specs.Choice.{pick}
use Rattle.text.specs.Bytes.{Bytes, ascii, is_digit, between, any, all, same, begins, empty, lowered}
use Rattle.text.specs.Decimal.{digits_before, decimal, value_from, number}
use Rattle.text.specs.Listed.{of_bytes}
use Rattle.text.specs.Reader.{first}
use Rattle.text.proofs.Cases.{and_left, and_right, not-true, not-both, between-true, range, in_range}
use Rattle.text.proofs.Same.{same_true}
use Rattle.text.proofs.Lists.{all_head, all_tail}
use Rattle.text.proofs.Listed.{all_alike, any-alike}
use Rattle.line.specs.Class.{is_name, is_key, is_stem, is_control}
use Rattle.line.specs.Grammar.{Line}
use Rattle.line.specs.Text.{write_text}
use Rattle.convert.specs.Table.{phone}
use Rattle.convert.specs.Value.{is_key_text, is_pref, is_tel_uri, write_as, written_type}
use Rattle.convert.specs.Answers.{is_stem_text, is_card_number, is_version_line}
use Rattle.convert.specs.InWords.{one_of, made_of, controls, begins-tel, Pref, Version, InWords}

-- ---- keys and stems

-- a text is not empty exactly if it has a byte
filled-one : (s : Bytes) → not (empty s) ≡ leb 1 (length s)
filled-one [] = refl
filled-one (c ∷ s) = sym (le-leb 1 (suc (length s)) (omega arith))

key-words : (s : Bytes) → of_bytes s ≡ true → is_key_text s ≡ made_of 1 255 (ascii "ABCDEFGHIJKLMNOPQRSTUVWXYZabcdefghijklmnopqrstuvwxyz0123456789-_") s
unfolding is_key_text is_key is_name between any
key-words s h = rw (filled-one s, all_alike is_key (one_of (ascii "ABCDEFGHIJKLMNOPQRSTUVWXYZabcdefghijklmnopqrstuvwxyz0123456789-_")) refl s h)

stem-words : (s : Bytes) → of_bytes s ≡ true → is_stem_text s ≡ made_of 1 200 (ascii "ABCDEFGHIJKLMNOPQRSTUVWXYZabcdefghijklmnopqrstuvwxyz0123456789:-_") s
unfolding is_stem_text is_stem is_key is_name between any
stem-words s h = rw (filled-one s, all_alike is_stem (one_of (ascii "ABCDEFGHIJKLMNOPQRSTUVWXYZabcdefghijklmnopqrstuvwxyz0123456789:-_")) refl s h)

-- ---- TEL

begins-take : (p s : Bytes) → begins p s ≡ same (take (length p) s) p
unfolding begins same
begins-take [] s = refl
begins-take (c ∷ p) [] = refl
begins-take (c ∷ p) (b ∷ s) = rw (begins-take p s)

tel-words : (v : Bytes) → of_bytes v ≡ true → is_tel_uri v ≡ begins-tel v
unfolding is_tel_uri is_control any
tel-words v h = ap₂ (λ (a b : Bool). a && not b) (begins-take (ascii "tel:") v) (any-alike is_control (one_of controls) refl v h)

tel-value-words : (v : Bytes) → of_bytes v ≡ true → written_type phone (v ∷ []) ≡ pick (begins-tel v) (ascii "uri" ∷ []) []
unfolding written_type
tel-value-words v h = ap (λ (b : Bool). pick b (ascii "uri" ∷ []) []) (tel-words v h)

tel-written-words : (v : Bytes) → of_bytes v ≡ true → write_as phone (v ∷ []) ≡ pick (begins-tel v) v (write_text false v)
unfolding write_as
tel-written-words v h = ap (λ (b : Bool). pick b v (write_text false v)) (tel-words v h)

-- ---- VERSION

no_bytes : {A : Type 0} (s : List A) → empty s ≡ true → s ≡ []
no_bytes [] e = refl
no_bytes (c ∷ s) e = not-both refl (sym e)

version-words : (l : Line) → is_version_line l ≡ true → Version l
unfolding is_version_line
version-words l h =
    let k = and_left _ (same l.value (ascii "4.0")) h in
    let g = and_left _ (empty l.params) k in
    record {
      group = no_bytes l.group (and_left _ (same (lowered l.name) (ascii "version")) g);
      name = same_true (lowered l.name) (ascii "version") (and_right (empty l.group) _ g);
      params = no_bytes l.params (and_right (empty l.group && same (lowered l.name) (ascii "version")) _ k);
      value = same_true l.value (ascii "4.0") (and_right (empty l.group && same (lowered l.name) (ascii "version") && empty l.params) _ h);
    }

words-version : (l : Line) → Version l → is_version_line l ≡ true
unfolding is_version_line same
words-version l v = rw (v.group, v.name, v.params, v.value)

-- ---- PREF

-- what the test says, taken apart
record Digits (p : Bytes) : Type 0 where
  filled : empty p ≡ false
  short : length p ≤ 3
  digits : all is_digit p ≡ true
  no_zero : eqb (first p) 48 ≡ false
  small : number p ≤ 100

pref-digits : (p : Bytes) → is_pref p ≡ true → Digits p
unfolding is_pref
pref-digits p h =
    let d = and_left _ (leb (number p) 100) h in
    let c = and_left _ (not (eqb (first p) 48)) d in
    let b = and_left _ (all is_digit p) c in
    record {
      filled = not-true (empty p) (and_left _ (leb (length p) 3) b);
      short = leb-true (length p) 3 (and_right (not (empty p)) _ b);
      digits = and_right (not (empty p) && leb (length p) 3) _ c;
      no_zero = not-true (eqb (first p) 48) (and_right (not (empty p) && leb (length p) 3 && all is_digit p) _ d);
      small = leb-true (number p) 100 (and_right (not (empty p) && leb (length p) 3 && all is_digit p && not (eqb (first p) 48)) _ h);
    }

digit : (c : ℕ) (s : Bytes) → all is_digit (c ∷ s) ≡ true → (48 ≤ c) × (c ≤ 57)
digit c s h = between-true 48 57 c (all_head is_digit c s h)

-- all numbers of one digit and of two, by computation
one-digit : (a : ℕ) → 48 ≤ a → a ≤ 57 → decimal (a - 48) ≡ a ∷ []
unfolding decimal digits_before
one-digit a l h = in_range (λ a. decimal (a - 48)) (λ a. a ∷ []) a 48 10 refl l (omega arith)

two_digits : (a b : ℕ) → 49 ≤ a → a ≤ 57 → 48 ≤ b → b ≤ 57 → decimal ((a - 48) * 10 + (b - 48)) ≡ a ∷ b ∷ []
unfolding decimal digits_before
two_digits a b l h m n =
    in_range (λ b. decimal ((a - 48) * 10 + (b - 48))) (λ b. a ∷ b ∷ []) b 48 10
    (in_range (λ a. map (λ b. decimal ((a - 48) * 10 + (b - 48))) (range 48 10)) (λ a. map (λ b. a ∷ b ∷ []) (range 48 10)) a 49 9 refl l (omega arith)) m (omega arith)

three-digits : (a b c : ℕ) → 49 ≤ a → 48 ≤ b → 48 ≤ c → (a - 48) * 100 + (b - 48) * 10 + (c - 48) ≤ 100 → (a ≡ 49) × (b ≡ 48) × (c ≡ 48)
three-digits a b c l m n h = (omega arith, omega arith, omega arith)

hundred : 49 ∷ 48 ∷ 48 ∷ [] ≡ decimal 100
unfolding decimal digits_before
hundred = refl

pref-words : (p : Bytes) → Digits p → Pref p
unfolding number value_from
pref-words [] d = not-both refl d.filled
pref-words (a ∷ []) d =
    let x = digit a [] d.digits in
    let z : (a ≡ 48 → ⊥) = eqb-false a 48 d.no_zero in
    record { n = a - 48; from = omega (arith, x.0); to = omega (arith, x.1); is = sym (one-digit a x.0 x.1) }
pref-words (a ∷ b ∷ []) d =
    let x = digit a (b ∷ []) d.digits in
    let y = digit b [] (all_tail is_digit a (b ∷ []) d.digits) in
    let z : (a ≡ 48 → ⊥) = eqb-false a 48 d.no_zero in
    record {
      n = (a - 48) * 10 + (b - 48);
      from = omega (arith, x.0);
      to = omega (arith, x.1, y.1);
      is = sym (two_digits a b (omega (arith, x.0)) x.1 y.0 y.1);
    }
pref-words (a ∷ b ∷ c ∷ []) d =
    let x = digit a (b ∷ c ∷ []) d.digits in
    let t = all_tail is_digit a (b ∷ c ∷ []) d.digits in
    let y = digit b (c ∷ []) t in
    let w = digit c [] (all_tail is_digit b (c ∷ []) t) in
    let z : (a ≡ 48 → ⊥) = eqb-false a 48 d.no_zero in
    let e = three-digits a b c (omega (arith, x.0)) y.0 w.0 (omega (arith, d.small)) in
    record { n = 100; from = omega arith; to = omega arith; is = rw (e.0, e.1, e.2) hundred }
pref-words (a ∷ b ∷ c ∷ e ∷ s) d = absurd (omega (arith, d.short))

-- each of the hundred, by computation
words-pref : (p : Bytes) → Pref p → is_pref p ≡ true
unfolding is_pref decimal digits_before all between number value_from
words-pref p r = rw r.is (in_range (λ n. is_pref (decimal n)) (λ n. true) r.n 1 100 refl r.from (omega (arith, r.to)))

-- ---- all of them

pub in_words : InWords
unfolding is_card_number
in_words =
    record {
      keys = key-words;
      stems = stem-words;
      numbers = λ n. refl;
      prefs = λ p h. pref-words p (pref-digits p h);
      all-prefs = words-pref;
      tel = tel-words;
      tel-value = tel-value-words;
      tel-written = tel-written-words;
      version = version-words;
      every-version = words-version;
    }
