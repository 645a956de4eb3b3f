-- Escapes of a string: where it goes on after one, and whether a surrogate is alone.
use mathlib.Core.Path.{◌≡◌, refl, ap, ◌∙◌}
use mathlib.Core.Bool.{false}
use mathlib.Core.List.{[], ◌∷◌}
use Prim.Native.Nat.{ℕ, zero, suc, ◌+◌, ◌-◌, ◌≤◌, ◌<◌}
use native.Mathlib.Omega.{arith}
use lib.ListN.{length, drop, get_or}
use lib.Dec.{leb, ltb}
use borrow.Author.Tests.{eq-eqb, ne_eqb, lt-leb, ltb-true, ltb-false}
use Rattle.text.specs.Choice.{is_some}
use Rattle.text.specs.Bytes.{Bytes, is, between}
use Rattle.text.specs.Reader.{got, under}
use Rattle.text.specs.Places.{byte_at}
use Rattle.std.specs.Prelude.{Result, Ok, Err}
use Rattle.text.proofs.Cases.{by_bool, in_between}
use Rattle.text.proofs.Places.{byte-default, on-yes, on-no, same-as, at-bad}
use Rattle.json_text.specs.Strings.{is_high, is_low}
use Rattle.json_text.specs.Syntax.{escape, characters}
use Rattle.json_chars.specs.Strings.{ToEnd, Unmarked}
use Rattle.json_chars.proofs.Laws.{string-on, char-escape}
use Rattle.json_escapes.specs.declared.Value.{Value}
use Rattle.json_escapes.specs.declared.Piece.TheVariants.{Of as Piece-Of}
use Rattle.json_escapes.specs.Units.{push, unit}
use Rattle.json_escapes.specs.Values.{Tells}
use Rattle.json_escapes.proofs.Laws.{tells_as, by_place}
use Rattle.json_strings.specs.Decoded.{decoded_at}
use Rattle.json_strings.proofs.Laws.{decoded-is, bare-at, raw-is, code_is, high_is, pair_is}
use Rattle.json_sound.specs.Sound.{Found}
use Rattle.json_sound.specs.declared.Sounded.TheVariants.{Sound, Unsound}
use Rattle.json_sound.specs.Sound.{paired, Judged, Onward, Follows, Low}
use Rattle.json_sound.proofs.Plain.{some-before, chars-alone, chars-paired}

below : (lo hi v : ℕ) → v < lo → between lo hi v ≡ false
unfolding between
below lo hi v l = rw (lt-leb lo v l)

above : (lo hi v : ℕ) → hi < v → between lo hi v ≡ false
unfolding between
above lo hi v l = by_bool (leb lo v) (λ p. rw (p, lt-leb v hi l)) (λ p. rw p)

-- ---- one part of a string after the other
module _ (s : Bytes) where
  pub follows-none : (at : ℕ) → Follows s at at
  follows-none at = (λ r x. x, refl)

  pub follows_then : {a b c : ℕ} → Follows s a b → Follows s b c → Follows s a c
  follows_then h k = (λ r x. h.0 r (k.0 r x), h.1 ∙ k.1)

  -- past bytes that stand for themselves no surrogate comes to stand alone
  some-on : ((k : ℕ) → get_or s k 0 < 256) → (at n : ℕ) → at + n ≤ length s → Unmarked s at (at + n) → is_some (decoded_at s at) ≡ is_some (decoded_at s (at + n))
  some-on small at zero l u = let z : at ≡ at + 0 = omega arith in ap (λ (i : ℕ). is_some (decoded_at s i)) z
  some-on small at (suc n) l u =
      let here = u at (omega arith) (omega arith) in
      let w : get_or s at 0 ≡ byte_at s at = byte-default s at 0 256 (omega arith) in
      let z : at + 1 + n ≡ at + suc n = omega arith in
      ap is_some (bare-at s at (get_or s at 0) w here.1 here.2 here.0 (small at)) ∙ some-before (get_or s at 0 ∷ []) (decoded_at s (at + 1))
      ∙ some-on small (at + 1) n (omega arith) (λ k p q. u k (omega (arith, p)) (omega (arith, q))) ∙ ap (λ (i : ℕ). is_some (decoded_at s i)) z

  pub follows-text : ((k : ℕ) → get_or s k 0 < 256) → (at to : ℕ) → at ≤ to → to ≤ length s → ToEnd s at to → Unmarked s at to → Follows s at to
  follows-text small at to l m g u =
      let z : at + (to - at) ≡ to = omega arith in
      (g, some-on small at (to - at) (omega arith) (λ k p q. u k p (omega (arith, q))) ∙ ap (λ (i : ℕ). is_some (decoded_at s i)) z)

  -- what is judged from a place on is judged from one that it follows
  pub follows-judged : (at i : ℕ) → Follows s at i → (r : Found) → Onward i (length s) r → Judged s (characters (drop i s)) paired r → Judged s (characters (drop at s)) paired r
  follows-judged at i h (Ok (Sound e)) w x =
      chars-paired s at (Ok e) (h.0 (Ok e) (same-as x.1 (record { is = refl; within = (omega (arith, w.0), w.1) })))
      (h.1 ∙ ap is_some (decoded-is s i x.0 (drop e s) x.1) ∙ x.2)
  follows-judged at i h (Ok (Unsound e)) w x =
      chars-alone s at (Ok e) (h.0 (Ok e) (same-as x.1 (record { is = refl; within = (omega (arith, w.0), w.1) })))
      (h.1 ∙ ap is_some (decoded-is s i x.0 (drop e s) x.1) ∙ x.2)
  follows-judged at i h (Err b) w x = at-bad (characters (drop at s)) (h.0 (Err b) (same-as x (record { is = refl; within = w })))

pub low-none : (s : Bytes) (at : ℕ) → Low s at at
low-none s at l = absurd (omega (arith, l))

-- ---- an escape, by the unit that it stands for
module _ (s : Bytes) (at b : ℕ) (e : b ≡ byte_at s at) (p : b ≡ 92) {r : Result Value ℕ} (t : Tells s (at + 1) 65792 (escape (drop (at + 1) s)) r) (v : Value) (q : r ≡ Ok v) where
  unit-escape : unit (drop at s) ≡ got (push v.number) (drop v.next s)
  unfolding unit
  unit-escape = on-no (is 34) s at b e _ _ (ne_eqb b 34 (λ z. omega arith)) ∙ on-yes (is 92) s at b e _ _ (eq-eqb b 92 p) ∙ ap (under push) (tells_as t q).is

  end-escape : ToEnd s at v.next
  end-escape = string-on s at v.next (char-escape s at b e (λ z. omega arith) p (Ok v.next) (by_place (Ok v) (tells_as t q)))

  follows-byte : v.number < 256 → Follows s at v.next
  follows-byte l = (end-escape, ap is_some (raw-is s at {r = Piece-Of v.number v.next} unit-escape v.number v.next refl l) ∙ some-before (v.number ∷ []) (decoded_at s v.next))

  follows-code : 256 ≤ v.number → is_high (v.number - 256) ≡ false → is_low (v.number - 256) ≡ false → Follows s at v.next
  follows-code l h k = (end-escape, ap is_some (code_is s at {r = Piece-Of v.number v.next} unit-escape v.number v.next refl l h k) ∙ some-before _ (decoded_at s v.next))

  -- no surrogate
  pub follows-below : v.number < 55552 → Follows s at v.next
  follows-below l =
      by_bool (ltb v.number 256) (λ m. follows-byte (ltb-true v.number 256 m))
      (λ m. follows-code (ltb-false v.number 256 m) (below 0xd800 0xdbff (v.number - 256) (omega arith)) (below 0xdc00 0xdfff (v.number - 256) (omega arith)))

  pub follows-above : 57599 < v.number → Follows s at v.next
  follows-above l = follows-code (omega arith) (above 0xd800 0xdbff (v.number - 256) (omega arith)) (above 0xdc00 0xdfff (v.number - 256) (omega arith))

  pub low-here : 56576 ≤ v.number → v.number ≤ 57599 → Low s at v.next
  low-here l m w = (v.number, unit-escape, omega arith, in_between 0xdc00 0xdfff (v.number - 256) (omega arith) (omega arith), end-escape)

  pub follows-pair : 55552 ≤ v.number → v.number < 56576 → (k : ℕ) → v.next < k → Low s v.next k → Follows s at k
  follows-pair l m k n w =
      let z = w n in
      let high = high_is s at {r = Piece-Of v.number v.next} unit-escape v.number v.next refl (omega arith) (in_between 0xd800 0xdbff (v.number - 256) (omega arith) (omega arith)) in
      let both = pair_is s v.next {r = Piece-Of z.0 k} z.1 (v.number - 256) (λ x. omega arith) z.0 k refl z.2 z.3 in
      (λ r x. end-escape r (z.4 r x), ap is_some (high ∙ both) ∙ some-before _ (decoded_at s k))
