-- Laws of decoded strings, over plain values.
use mathlib.Core.Path.{◌≡◌, refl, sym, ap, subst, ◌∙◌}
use mathlib.Core.Bool.{true, false, ◌&&◌}
use mathlib.Core.List.{[], ◌∷◌, ◌++◌, append_assoc}
use mathlib.Core.Option.{Option, none, some}
use Prim.Native.Nat.{ℕ, zero, suc, ◌+◌, ◌-◌, ◌*◌, ◌/◌, ◌%◌, ◌≤◌, ◌<◌}
use native.Mathlib.Omega.{arith}
use lib.ListN.{length, drop, drop_of_length-le}
use lib.Dec.{eqb, ltb}
use borrow.Author.Tests.{eq-eqb, ne_eqb, lt-ltb, le-ltb}
use Rattle.text.specs.Choice.{pick}
use Rattle.text.specs.Bytes.{Bytes, is, between}
use Rattle.text.specs.Utf8.{encode}
use Rattle.text.specs.Reader.{Got, got, bad, under, on, Step, last, loop}
use Rattle.text.specs.Places.{byte_at}
use Rattle.text.proofs.Places.{by_bool, on-yes, on-no}
use Rattle.text.proofs.Cases.{in_between}
use Rattle.text.proofs.Fine.{loop-more, loop-last, loop-bad}
use Rattle.json_text.specs.Syntax.{characters}
use Rattle.json_text.specs.Strings.{is_high, is_low, joined_pair, before, decode_after, decode}
use Rattle.json_escapes.specs.Units.{push, unit, units, unit_of, UnitIn}
use Rattle.json_escapes.specs.declared.Piece.{Piece}
use Rattle.json_escapes.specs.declared.Piece.TheVariants.{Of, End, Wrong}
use Rattle.json_escapes.proofs.Characters.{unit-fine, units-same}
use Rattle.json_strings.specs.declared.Letter.{Letter}
use Rattle.json_strings.specs.declared.Letter.TheVariants.{Raw, Code, End as LEnd, Alone as LAlone}
use Rattle.json_strings.specs.Decoded.{told, decoded_at, LetterIn, held_in, held, lead_of, rest_of, left, weight}

-- a string that the grammar reads is decoded_at by its units' decoding
pub decoded-is : (s : Bytes) (at : ℕ) (us t : Bytes) → characters (drop at s) ≡ got us t → decoded_at s at ≡ decode us
unfolding decoded_at decode
decoded-is s at us t e = ap (told 0) (units-same (drop at s) us t e)

-- a place past the end stands for nothing
no-unit : unit [] ≡ bad []
unfolding unit on between
no-unit = refl

pub decoded-past : (s : Bytes) (p : ℕ) → length s < p → decoded_at s p ≡ none
unfolding decoded_at units
decoded-past s p l = ap (λ (x : Bytes). told 0 (loop unit x)) (drop_of_length-le s {i = p} (omega arith)) ∙ ap (told 0) (loop-bad unit unit-fine.less [] [] no-unit)

-- ---- one unit after the other
module _ (h : ℕ) (s : Bytes) (at : ℕ) where
  told_more : (u e : ℕ) → unit (drop at s) ≡ got (push u) (drop e s) → told h (units (drop at s)) ≡ told h (under (λ us. u ∷ us) (units (drop e s)))
  unfolding units
  told_more u e q = ap (told h) (loop-more unit unit-fine.less (drop at s) (drop e s) (λ us. u ∷ us) q)

  told-end : (e : ℕ) → unit (drop at s) ≡ got (last []) (drop e s) → told h (units (drop at s)) ≡ decode_after h []
  unfolding units
  told-end e q = ap (told h) (loop-last unit unit-fine.less (drop at s) (drop e s) [] q)

  told-wrong : (e : ℕ) → unit (drop at s) ≡ bad (drop e s) → told h (units (drop at s)) ≡ none
  unfolding units
  told-wrong e q = ap (told h) (loop-bad unit unit-fine.less (drop at s) (drop e s) q)

-- ---- what the first unit stands for
module _ (u : ℕ) where
  raw-first : (x : Got Bytes) → u < 256 → told 0 (under (λ us. u ∷ us) x) ≡ before (u ∷ []) (told 0 x)
  unfolding decode_after
  raw-first (got us t) l = rw (lt-ltb u 256 l)
  raw-first (bad t) l = refl

  module _ (l : 256 ≤ u) where
    high-first : (x : Got Bytes) → is_high (u - 256) ≡ true → told 0 (under (λ us. u ∷ us) x) ≡ told (u - 256) x
    unfolding decode_after
    high-first (got us t) h = rw (le-ltb u 256 l, h)
    high-first (bad t) h = refl

    low_first : (x : Got Bytes) → is_high (u - 256) ≡ false → is_low (u - 256) ≡ true → told 0 (under (λ us. u ∷ us) x) ≡ none
    unfolding decode_after
    low_first (got us t) h k = rw (le-ltb u 256 l, h, k)
    low_first (bad t) h k = refl

    code-first : (x : Got Bytes) → is_high (u - 256) ≡ false → is_low (u - 256) ≡ false → told 0 (under (λ us. u ∷ us) x) ≡ before (encode (u - 256)) (told 0 x)
    unfolding decode_after
    code-first (got us t) h k = rw (le-ltb u 256 l, h, k)
    code-first (bad t) h k = refl

-- after a high surrogate
pair_end : (h : ℕ) → (h ≡ 0 → ⊥) → decode_after h [] ≡ none
unfolding decode_after
pair_end zero n = absurd (n refl)
pair_end (suc h) n = refl

pair-first : (h : ℕ) → (h ≡ 0 → ⊥) → (u : ℕ) (us : Bytes)
    → decode_after h (u ∷ us) ≡ pick (ltb 255 u && is_low (u - 256)) (before (encode (joined_pair h (u - 256))) (decode_after 0 us)) none
unfolding decode_after
pair-first zero n u us = absurd (n refl)
pair-first (suc h) n u us = refl

module _ (h : ℕ) (n : h ≡ 0 → ⊥) (u : ℕ) where
  no-escape : (x : Got Bytes) → u < 256 → told h (under (λ us. u ∷ us) x) ≡ none
  no-escape (got us t) l = pair-first h n u us ∙ rw (le-ltb 255 u (omega arith))
  no-escape (bad t) l = refl

  no-low : (x : Got Bytes) → 256 ≤ u → is_low (u - 256) ≡ false → told h (under (λ us. u ∷ us) x) ≡ none
  no-low (got us t) l k = pair-first h n u us ∙ rw (lt-ltb 255 u (omega arith), k)
  no-low (bad t) l k = refl

  low_second : (x : Got Bytes) → 256 ≤ u → is_low (u - 256) ≡ true → told h (under (λ us. u ∷ us) x) ≡ before (encode (joined_pair h (u - 256))) (told 0 x)
  low_second (got us t) l k = pair-first h n u us ∙ rw (lt-ltb 255 u (omega arith), k)
  low_second (bad t) l k = refl

-- ---- what a unit's reader told: the laws that the proofs of code cite
module _ (s : Bytes) (at : ℕ) {r : Piece} (q : unit (drop at s) ≡ unit_of s r) where
  pub wrong-is : {b : ℕ} → r ≡ Wrong b → decoded_at s at ≡ none
  unfolding decoded_at
  wrong-is {b} e = told-wrong 0 s at b (q ∙ ap (unit_of s) e)

  pub end_is : {b : ℕ} → r ≡ End b → decoded_at s at ≡ some []
  unfolding decoded_at decode_after
  end_is {b} e = told-end 0 s at b (q ∙ ap (unit_of s) e)

  module _ (u b : ℕ) (e : r ≡ Of u b) where
    pub raw-is : u < 256 → decoded_at s at ≡ before (u ∷ []) (decoded_at s b)
    unfolding decoded_at
    raw-is l = told_more 0 s at u b (q ∙ ap (unit_of s) e) ∙ raw-first u (units (drop b s)) l

    module _ (l : 256 ≤ u) where
      pub high_is : is_high (u - 256) ≡ true → decoded_at s at ≡ told (u - 256) (units (drop b s))
      unfolding decoded_at
      high_is h = told_more 0 s at u b (q ∙ ap (unit_of s) e) ∙ high-first u l (units (drop b s)) h

      pub low-is : is_high (u - 256) ≡ false → is_low (u - 256) ≡ true → decoded_at s at ≡ none
      unfolding decoded_at
      low-is h k = told_more 0 s at u b (q ∙ ap (unit_of s) e) ∙ low_first u l (units (drop b s)) h k

      pub code_is : is_high (u - 256) ≡ false → is_low (u - 256) ≡ false → decoded_at s at ≡ before (encode (u - 256)) (decoded_at s b)
      unfolding decoded_at
      code_is h k = told_more 0 s at u b (q ∙ ap (unit_of s) e) ∙ code-first u l (units (drop b s)) h k

  module _ (h : ℕ) (n : h ≡ 0 → ⊥) where
    pub pair-wrong : {b : ℕ} → r ≡ Wrong b → told h (units (drop at s)) ≡ none
    pair-wrong {b} e = told-wrong h s at b (q ∙ ap (unit_of s) e)

    pub pair_ends : {b : ℕ} → r ≡ End b → told h (units (drop at s)) ≡ none
    pair_ends {b} e = told-end h s at b (q ∙ ap (unit_of s) e) ∙ pair_end h n

    module _ (u b : ℕ) (e : r ≡ Of u b) where
      pub pair-raw : u < 256 → told h (units (drop at s)) ≡ none
      pair-raw l = told_more h s at u b (q ∙ ap (unit_of s) e) ∙ no-escape h n u (units (drop b s)) l

      pub pair-other : 256 ≤ u → is_low (u - 256) ≡ false → told h (units (drop at s)) ≡ none
      pair-other l k = told_more h s at u b (q ∙ ap (unit_of s) e) ∙ no-low h n u (units (drop b s)) l k

      pub pair_is : 256 ≤ u → is_low (u - 256) ≡ true → told h (units (drop at s)) ≡ before (encode (joined_pair h (u - 256))) (decoded_at s b)
      unfolding decoded_at
      pair_is l k = told_more h s at u b (q ∙ ap (unit_of s) e) ∙ low_second h n u (units (drop b s)) l k

-- ---- what stands at a place, by its byte
module _ (s : Bytes) (i b : ℕ) (e : b ≡ byte_at s i) where
  pub quote-at : b ≡ 34 → decoded_at s i ≡ some []
  unfolding unit
  quote-at h = end_is s i {r = End (i + 1)} (on-yes (is 34) s i b e _ _ (eq-eqb _ _ h)) {b = i + 1} refl

  module _ (n : b ≡ 34 → ⊥) (m : b ≡ 92 → ⊥) where
    past-marks : (f : ℕ → Bytes → Got (Step Bytes)) (g : Bytes → Got (Step Bytes)) → on (is 34) (λ c t. got (last []) t) (on (is 92) f g) (drop i s) ≡ g (drop i s)
    past-marks f g = on-no (is 34) s i b e _ _ (ne_eqb _ _ n) ∙ on-no (is 92) s i b e _ _ (ne_eqb _ _ m)

    -- a byte that stands for itself
    pub bare-at : 32 ≤ b → b < 256 → decoded_at s i ≡ before (b ∷ []) (decoded_at s (i + 1))
    unfolding unit
    bare-at l h = raw-is s i {r = Of b (i + 1)} (past-marks _ _ ∙ on-yes (between 32 255) s i b e _ _ (in_between 32 255 b l (omega arith))) b (i + 1) refl h

    -- a control, or the end of the text
    pub nothing-at : between 32 255 b ≡ false → decoded_at s i ≡ none
    unfolding unit
    nothing-at h = wrong-is s i {r = Wrong i} (past-marks _ _ ∙ on-no (between 32 255) s i b e _ _ h) {b = i} refl

pub unit-in : (at n : ℕ) {r q : Piece} → UnitIn at n r → r ≡ q → UnitIn at n q
unit-in at n h e = subst (UnitIn at n) e h

pub letter-in : (at n : ℕ) {r q : Letter} → LetterIn at n r → r ≡ q → LetterIn at n q
letter-in at n h e = subst (LetterIn at n) e h

pub letter-up : (a b n : ℕ) (r : Letter) → a < b → LetterIn b n r → LetterIn a n r
letter-up a b n (Raw c e) l h = omega arith
letter-up a b n (Code v e) l h = omega arith
letter-up a b n LEnd l h = omega arith
letter-up a b n LAlone l h = tt

-- ---- held bytes
held_cons : (a y n : ℕ) → a < 256 → 0 < a → held_in (suc n) (a + 256 * y) ≡ a ∷ held_in n y
unfolding held_in
held_cons a y n l p =
    let z : eqb (a + 256 * y) 0 ≡ false = ne_eqb (a + 256 * y) 0 (λ e. omega arith) in
    let q : (a + 256 * y) / 256 ≡ y = omega arith in
    let r : (a + 256 * y) % 256 ≡ a = omega arith in
    rw (z, q, r)

held_none : (n : ℕ) → held_in n 0 ≡ []
unfolding held_in
held_none zero = refl
held_none (suc n) = refl

held_one : (a n : ℕ) → a < 256 → 0 < a → held_in (suc n) a ≡ a ∷ []
unfolding held_in
held_one a n l p =
    let z : eqb a 0 ≡ false = ne_eqb a 0 (λ e. omega arith) in
    let q : a / 256 ≡ 0 = omega arith in
    let r : a % 256 ≡ a = omega arith in
    rw (z, q, r, held_none n)

pub encode-split : (v : ℕ) → encode v ≡ lead_of v ∷ held (rest_of v)
unfolding encode lead_of rest_of
encode-split v =
    by_bool (ltb v 0x80) (λ p. rw (p, held_none 4))
    (λ p. by_bool (ltb v 0x800) (λ q. rw (p, q, held_one (0x80 + v % 64) 3 (omega arith) (omega arith)))
    (λ q. by_bool (ltb v 0x10000)
    (λ r. rw (p, q, r, held_cons (0x80 + v / 64 % 64) (0x80 + v % 64) 3 (omega arith) (omega arith), held_one (0x80 + v % 64) 2 (omega arith) (omega arith)))
    (λ r. rw (p, q, r, held_cons (0x80 + v / 4096 % 64) (0x80 + v / 64 % 64 + 256 * (0x80 + v % 64)) 3 (omega arith) (omega arith), held_cons (0x80 + v / 64 % 64) (0x80 + v % 64) 2 (omega arith) (omega arith), held_one (0x80 + v % 64) 1 (omega arith) (omega arith)))))

-- a number of 32 bits holds four bytes at most, and one that is taken leaves a number with the others
held-more-0 : (x : ℕ) → x < 1 → held_in 0 x ≡ held_in 1 x
unfolding held_in
held-more-0 x l = rw (eq-eqb x 0 (omega arith))

held_more : (n x : ℕ) → held_in n (x / 256) ≡ held_in (suc n) (x / 256) → held_in (suc n) x ≡ held_in (suc (suc n)) x
unfolding held_in
held_more n x e = by_bool (eqb x 0) (λ q. rw q) (λ q. rw q (ap (λ (t : Bytes). x % 256 ∷ t) e))

held_all : (x : ℕ) → x < 16777216 → held_in 3 x ≡ held_in 4 x
held_all x l =
    held_more 2 x (held_more 1 (x / 256) (held_more 0 (x / 256 / 256) (held-more-0 (x / 256 / 256 / 256) (omega arith))))

pub held-step : (h : ℕ) → h < 4294967296 → (h ≡ 0 → ⊥) → held h ≡ h % 256 ∷ held (h / 256)
unfolding held_in
held-step h l n = rw (ne_eqb h 0 n) (ap (λ (t : Bytes). h % 256 ∷ t) (held_all (h / 256) (omega arith)))

pub held-short : (n h : ℕ) → length (held_in n h) ≤ n
unfolding held_in
held-short zero h = omega arith
held-short (suc n) h = by_bool (eqb h 0) (λ q. rw q (omega arith)) (λ q. rw q (omega (arith, held-short n (h / 256))))

-- ---- what is still to come
before-nil : (x : Option Bytes) → before [] x ≡ x
before-nil none = refl
before-nil (some s) = refl

before-both : (p q : Bytes) (x : Option Bytes) → before (p ++ q) x ≡ before p (before q x)
before-both p q none = refl
before-both p q (some s) = ap some (append_assoc p q s)

pub left-none : (s : Bytes) (at : ℕ) → left s at 0 ≡ decoded_at s at
unfolding left held_in
left-none s at = before-nil (decoded_at s at)

module _ (s : Bytes) (at : ℕ) where
  pub left-held : (h : ℕ) → h < 4294967296 → (h ≡ 0 → ⊥) → (left s at h ≡ before (h % 256 ∷ []) (left s at (h / 256))) × (weight s at (h / 256) < weight s at h)
  unfolding left weight
  left-held h l n =
      let e = held-step h l n in
      (ap (λ (t : Bytes). before t (decoded_at s at)) e ∙ before-both (h % 256 ∷ []) (held (h / 256)) (decoded_at s at), omega (arith, ap length e))

  pub left-raw : (b e : ℕ) → decoded_at s at ≡ before (b ∷ []) (decoded_at s e) → left s at 0 ≡ before (b ∷ []) (left s e 0)
  left-raw b e q = left-none s at ∙ q ∙ ap (before (b ∷ [])) (sym (left-none s e))

  pub left-code : (v e : ℕ) → decoded_at s at ≡ before (encode v) (decoded_at s e) → left s at 0 ≡ before (lead_of v ∷ []) (left s e (rest_of v))
  unfolding left
  left-code v e q =
      left-none s at ∙ q ∙ ap (λ (t : Bytes). before t (decoded_at s e)) (encode-split v) ∙ before-both (lead_of v ∷ []) (held (rest_of v)) (decoded_at s e)

  pub weight-falls : (e h k : ℕ) → at < e → e ≤ length s → weight s e k < weight s at h
  unfolding weight
  weight-falls e h k l m = omega (arith, held-short 4 k)
