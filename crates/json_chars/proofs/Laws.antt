-- Laws of characters, over plain values.
use mathlib.Core.Path.{◌≡◌, refl, sym, ap, ◌∙◌}
use mathlib.Core.Bool.{true, false}
use mathlib.Core.List.{[], ◌∷◌, ◌++◌}
use Prim.Native.Nat.{ℕ, zero, suc, ◌+◌, ◌-◌, ◌≤◌, ◌<◌}
use native.Mathlib.Numerals.{add-one, sub-one}
use native.Mathlib.Omega.{arith}
use lib.ListN.{length, drop, get_or, length-drop, length-append, get_or-append}
use lib.Seq.{drop-cons, get_or-drop}
use lib.Dec.{ltb}
use borrow.Author.Tests.{eq-eqb, ne_eqb, lt-ltb, ltb-true, ltb-false}
use Rattle.text.specs.Places.{Read}
use Rattle.std.specs.Prelude.{Ok, Err}
use Rattle.text.specs.Places.{Turn}
use Rattle.std.proofs.Common.{Continue, Break}
use Rattle.text.specs.Bytes.{Bytes, is, between}
use Rattle.text.specs.Utf8.{Due, due, lead}
use Rattle.text.specs.Reader.{Got, got, bad, under, on, Step, more, last}
use Rattle.text.specs.Places.{byte_at, Gives, GivesT}
use Rattle.text.proofs.Places.{by_bool, byte-default, here, bad-here, by-under, by-on, not_on, on-yes, on-no, same_turn, under_more, under-bad, more-here, last-here, bad-turn, same-as, up}
use Rattle.text.proofs.Cases.{in_between}
use Rattle.text.proofs.Fine.{loop-more, loop-last, loop-bad}
use Rattle.json_text.specs.Syntax.{escape, is_lead, leads, tail_bytes, following, character, characters}
use Rattle.json_text.proofs.Fine.{character-fine}
use Rattle.json_escapes.proofs.Characters.{wide-bytes}
use Rattle.json_chars.specs.Strings.{ToEnd, Unmarked}

-- ---- whether a character of several bytes starts, by what must follow
pub by-lead : (c : ℕ) {d : Due} → d ≡ lead c → is_lead c ≡ leads d
unfolding is_lead lead
by-lead c e = rw e (by_bool (ltb 127 c) (λ p. rw p) (λ p. rw (p, lt-ltb c 128 (omega (arith, ltb-false 127 c p)))))

-- ---- a turn that goes on where a reader ended
abbrev pub turn_of : Read → Turn
turn_of (Ok j) = Continue j
turn_of (Err b) = Break (Err b)

goes : {A B : Type 0} {s : Bytes} (f : A → B → B) {a b : ℕ} {want : Got A} (r : Read) → a < b → Gives s b want r → GivesT s a (under (λ x. more (f x)) want) (turn_of r)
goes f (Ok j) l h = under_more f l h
goes f (Err e) l h = under-bad f (omega arith) h

-- ---- tails
pub tails-more : (s : Bytes) (i b n : ℕ) (r : Read) → b ≡ byte_at s i → between 0x80 0xbf b ≡ true → 0 < n
    → Gives s (i + 1) (tail_bytes (n - 1) (drop (i + 1) s)) r → Gives s i (tail_bytes n (drop i s)) r
unfolding tail_bytes
tails-more s i b zero r e h l x = absurd (omega arith)
tails-more s i b (suc n) r e h l x = by-on (between 0x80 0xbf) _ bad e h (by-under _ (rw sub-one at x))

pub tails-bad : (s : Bytes) (i b n : ℕ) → i ≤ length s → b ≡ byte_at s i → between 0x80 0xbf b ≡ false → 0 < n → Gives s i (tail_bytes n (drop i s)) (Err i)
unfolding tail_bytes
tails-bad s i b zero l e h g = absurd (omega arith)
tails-bad s i b (suc n) l e h g = not_on (between 0x80 0xbf) _ bad e h (bad-here i l)

pub tails-none : (s : Bytes) (i n : ℕ) → i ≤ length s → n ≡ 0 → Gives s i (tail_bytes n (drop i s)) (Ok i)
unfolding tail_bytes
tails-none s i n l e = rw e (here [] i l)

-- ---- a character, by its first byte
module _ (s : Bytes) (i b : ℕ) (e : b ≡ byte_at s i) where
  pub char-end : b ≡ 34 → i + 1 ≤ length s → GivesT s i (character (drop i s)) (Break (Ok (i + 1)))
  unfolding character
  char-end h l = same_turn (on-yes (is 34) s i b e _ _ (eq-eqb _ _ h)) (last-here [] (omega arith) l)

  module _ (n : b ≡ 34 → ⊥) where
    pub char-escape : b ≡ 92 → (r : Read) → Gives s (i + 1) (escape (drop (i + 1) s)) r → GivesT s i (character (drop i s)) (turn_of r)
    unfolding character
    char-escape h r x =
        same_turn (on-no (is 34) s i b e _ _ (ne_eqb _ _ n) ∙ on-yes (is 92) s i b e _ _ (eq-eqb _ _ h)) (goes (λ u us. u ∷ us) r (omega arith) x)

    module _ (m : b ≡ 92 → ⊥) where
      past-marks : (g : Bytes → Got (Step Bytes)) (f : ℕ → Bytes → Got (Step Bytes)) → on (is 34) (λ c t. got (last []) t) (on (is 92) f g) (drop i s) ≡ g (drop i s)
      past-marks g f = on-no (is 34) s i b e _ _ (ne_eqb _ _ n) ∙ on-no (is 92) s i b e _ _ (ne_eqb _ _ m)

      pub char-plain : between 32 127 b ≡ true → i + 1 ≤ length s → GivesT s i (character (drop i s)) (Continue (i + 1))
      unfolding character
      char-plain h l = same_turn (past-marks _ _ ∙ on-yes (between 32 127) s i b e _ _ h) (more-here _ (omega arith) l)

      pub char-wide : between 32 127 b ≡ false → {low high k : ℕ} → due low high k ≡ lead b → (r : Read)
          → Gives s (i + 1) (following (due low high k) (drop (i + 1) s)) r → GivesT s i (character (drop i s)) (turn_of r)
      unfolding character
      char-wide p q r x =
          same_turn (past-marks _ _ ∙ on-no (between 32 127) s i b e _ _ p ∙ on-yes is_lead s i b e _ _ (by-lead b q)) (goes _ r (omega arith) (rw q at x))

      pub char-none : between 32 127 b ≡ false → is_lead b ≡ false → i ≤ length s → GivesT s i (character (drop i s)) (Break (Err i))
      unfolding character
      char-none p h l = same_turn (past-marks _ _ ∙ on-no (between 32 127) s i b e _ _ p ∙ on-no is_lead s i b e _ _ h) (bad-turn (omega arith) l)

-- ---- a string, one character after the other
module _ (s : Bytes) (i : ℕ) where
  goes_on : (j : ℕ) (w : Got (Step Bytes)) → character (drop i s) ≡ w → GivesT s i w (Continue j) → ToEnd s i j
  unfolding characters
  goes_on j (got (more g) t) q h r x =
      same-as (loop-more character character-fine.less (drop i s) (drop j s) g (q ∙ ap (got (more g)) h.is)) (up (omega (arith, h.within.0)) (by-under g x))
  goes_on j (got (last b) t) q h r x = absurd h.is
  goes_on j (bad t) q h r x = absurd h.is

  pub string-on : (j : ℕ) → GivesT s i (character (drop i s)) (Continue j) → ToEnd s i j
  string-on j h = goes_on j (character (drop i s)) refl h

  stops : (r : Read) (w : Got (Step Bytes)) → character (drop i s) ≡ w → GivesT s i w (Break r) → Gives s i (characters (drop i s)) r
  unfolding characters
  stops r (got (more g) t) q h = absurd h.is
  stops r (got (last b) t) q h = same-as (loop-last character character-fine.less (drop i s) t b q) (record { is = h.is; within = h.within })
  stops r (bad t) q h = same-as (loop-bad character character-fine.less (drop i s) t q) (record { is = h.is; within = h.within })

  pub string-stop : (r : Read) → GivesT s i (character (drop i s)) (Break r) → Gives s i (characters (drop i s)) r
  string-stop r h = stops r (character (drop i s)) refl h

  -- a character of one byte that stands for itself
  pub plain-on : (b : ℕ) → b ≡ byte_at s i → (b ≡ 34 → ⊥) → (b ≡ 92 → ⊥) → 32 ≤ b → b < 128 → i + 1 ≤ length s → ToEnd s i (i + 1)
  plain-on b e n m l h k = string-on (i + 1) (char-plain s i b e n m (in_between 32 127 b l (omega arith)) k)

-- ---- bytes with no mark among them
all-high : (b : ℕ) (x : Bytes) → 128 ≤ b → ((k : ℕ) → k < length x → 128 ≤ get_or x k 0) → (k : ℕ) → k < length (b ∷ x) → 128 ≤ get_or (b ∷ x) k 0
all-high b x l h zero m = l
all-high b x l h (suc k) m = h k (omega (arith, m))

pub unmarked-none : (s : Bytes) (at : ℕ) → Unmarked s at at
unmarked-none s at k l m = absurd (omega (arith, l, m))

module _ (s : Bytes) where
  pub unmarked-join : {a b c : ℕ} → Unmarked s a b → Unmarked s b c → Unmarked s a c
  unmarked-join {b = b} h g k l m = by_bool (ltb k b) (λ z. h k l (ltb-true k b z)) (λ z. g k (ltb-false k b z) m)

  module _ (i b : ℕ) (e : b ≡ byte_at s i) (w : i < length s) where
    same_byte : b ≡ get_or s i 0
    same_byte = e ∙ byte-default s i 256 0 w

    pub unmarked-one : 32 ≤ b → (b ≡ 34 → ⊥) → (b ≡ 92 → ⊥) → Unmarked s i (i + 1)
    unmarked-one l n m k p q =
        let z : i ≡ k = omega (arith, p, q) in
        let t : b ≡ get_or s k 0 = same_byte ∙ ap (λ (x : ℕ). get_or s x 0) z in
        (omega (arith, t), λ x. n (t ∙ x), λ x. m (t ∙ x))

    -- a character of several bytes
    wide-goes : 128 ≤ b → (j : ℕ) (t : Got (Step Bytes)) → character (drop i s) ≡ t → GivesT s i t (Continue j) → Unmarked s i j
    wide-goes l j (got (more g) t) q h k m n =
        let front : drop i s ≡ b ∷ drop (i + 1) s = rw (drop-cons s i 256 w, ← e, ← add-one i) in
        let x = wide-bytes b (drop (i + 1) s) (drop j s) g l (ap character (sym front) ∙ q ∙ ap (got (more g)) h.is) in
        let whole : drop i s ≡ (b ∷ x.0) ++ drop j s = front ∙ ap (λ (y : Bytes). b ∷ y) x.1 in
        let size = simp (length-drop, length-append, length-drop) at (ap length whole) in
        let o : k - i < length (b ∷ x.0) = omega (arith, size, h.within.1, m, n) in
        let v : get_or s k 0 ≡ get_or (b ∷ x.0) (k - i) 0 = ap (λ (y : ℕ). get_or s y 0) (omega (arith, m)) ∙ sym (get_or-drop i s (k - i) 0)
        ∙ ap (λ (y : Bytes). get_or y (k - i) 0) whole ∙ get_or-append (b ∷ x.0) (drop j s) 0 (k - i) o in
        let high : 128 ≤ get_or s k 0 = rw v (all-high b x.0 l x.2 (k - i) o) in
        (omega (arith, high), λ y. omega (arith, high, y), λ y. omega (arith, high, y))
    wide-goes l j (got (last c) t) q h k m n = absurd h.is
    wide-goes l j (bad t) q h k m n = absurd h.is

    pub unmarked-wide : 128 ≤ b → (j : ℕ) → GivesT s i (character (drop i s)) (Continue j) → Unmarked s i j
    unmarked-wide l j h = wide-goes l j (character (drop i s)) refl h
