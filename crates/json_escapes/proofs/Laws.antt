-- Laws of escapes, over plain values.
use mathlib.Core.Path.{◌≡◌, refl, sym, ap, subst, ◌∙◌}
use mathlib.Core.Bool.{true, false}
use Prim.Native.Nat.{ℕ, ◌+◌, ◌-◌, ◌≤◌, ◌<◌}
use native.Mathlib.Omega.{arith}
use lib.ListN.{length, drop}
use lib.Dec.{eqb, ltb}
use borrow.Author.Tests.{eq-eqb, ne_eqb, ltb-true, ltb-false}
use Rattle.text.specs.Bytes.{Bytes, is, between}
use Rattle.text.specs.Reader.{Got, got, bad, under}
use Rattle.text.specs.Places.{Read}
use Rattle.std.specs.Prelude.{Result, Ok, Err}
use Rattle.std.specs.Result.{IsErrAnd}
use Rattle.text.specs.Places.{byte_at, Gives}
use Rattle.text.proofs.Places.{by_bool, on-yes, on-no, Between-in, same-as}
use Rattle.text.proofs.Handed.{same-error}
use Rattle.json_text.specs.Grammar.{is_hex, is_short}
use Rattle.json_text.specs.Syntax.{hex_val, hex, hex4, short, escape}
use Rattle.json_escapes.specs.declared.Value.{Value}
use Rattle.json_escapes.specs.Values.{value_of, ValueIn, Tells}

-- ---- hexadecimal digits
pub digit-09 : (b : ℕ) → between 48 57 b ≡ true → (48 ≤ b) × (b - 48 ≡ hex_val b) × (b - 48 < 16)
unfolding hex_val
digit-09 b e = let h = Between-in 48 57 b e in (omega arith, rw e, omega arith)

pub digit-AF : (b : ℕ) → between 48 57 b ≡ false → between 65 70 b ≡ true → (55 ≤ b) × (b - 55 ≡ hex_val b) × (b - 55 < 16)
unfolding hex_val
digit-AF b p e = let h = Between-in 65 70 b e in (omega arith, rw (p, e), omega arith)

pub digit-af : (b : ℕ) → is_hex b ≡ true → between 48 57 b ≡ false → between 65 70 b ≡ false → (87 ≤ b) × (b - 87 ≡ hex_val b) × (b - 87 < 16)
unfolding hex_val is_hex
digit-af b t p q = let h = Between-in 97 102 b (rw (p, q) at t) in (omega arith, rw (p, q), omega arith)

-- ---- what is told, once it is known which answer it was
pub tells_as : {s : Bytes} {at k : ℕ} {want : Got ℕ} {r q : Result Value ℕ} → Tells s at k want r → r ≡ q → Tells s at k want q
tells_as {s} {at} {k} h e = record { is = h.is ∙ ap (value_of s) e; within = subst (ValueIn at (length s) k) e h.within }

-- what `?` hands on
pub tells-handed : {s : Bytes} {at k b : ℕ} {want : Got ℕ} {r : Result Value ℕ} → IsErrAnd r (λ y. y ≡ b) → Tells s at k want (Err b) → Tells s at k want r
tells-handed {r = r} h g = tells_as g (sym (same-error r h))

-- ---- an answer with the number is an answer by place
abbrev pub place_of : Result Value ℕ → Read
place_of (Ok v) = Ok v.next
place_of (Err b) = Err b

pub by_place : {s : Bytes} {at k : ℕ} {want : Got ℕ} (r : Result Value ℕ) → Tells s at k want r → Gives s at want (place_of r)
by_place (Ok v) h = same-as h.is (record { is = refl; within = omega (arith, h.within) })
by_place (Err b) h = same-as h.is (record { is = refl; within = h.within })

-- ---- escapes, by the byte after the backslash
no_key : (b k : ℕ) → 256 ≤ b → k < 256 → eqb b k ≡ false
no_key b k l h = ne_eqb b k (λ e. omega arith)

pub short-in : (b : ℕ) → is_short b ≡ true → b < 256
unfolding is_short
short-in b h =
    by_bool (ltb b 256) (λ q. ltb-true b 256 q)
    (λ q. let l = ltb-false b 256 q in
    let f : (k : ℕ) → k < 256 → eqb b k ≡ false = λ k m. no_key b k l m in
    let z : false ≡ true = rw (f 34 (omega arith), f 92 (omega arith), f 47 (omega arith), f 98 (omega arith), f 102 (omega arith), f 110 (omega arith), f 114 (omega arith), f 116 (omega arith)) at h in
    let r : ◌≡◌ {A = ℕ} 0 1 = cc in absurd (omega arith))

module _ (s : Bytes) (i b : ℕ) (e : b ≡ byte_at s i) where
  pub hex-yes : is_hex b ≡ true → (v : ℕ) → v ≡ hex_val b → hex (drop i s) ≡ got v (drop (i + 1) s)
  unfolding hex
  hex-yes h v q = on-yes is_hex s i b e _ _ h ∙ ap (λ (x : ℕ). got x (drop (i + 1) s)) (sym q)

  pub hex-no : is_hex b ≡ false → hex (drop i s) ≡ bad (drop i s)
  unfolding hex
  hex-no h = on-no is_hex s i b e _ _ h

  pub esc-u : b ≡ 117 → escape (drop i s) ≡ under (λ v. 256 + v) (hex4 (drop (i + 1) s))
  unfolding escape
  esc-u h = on-yes (is 117) s i b e _ _ (eq-eqb _ _ h)

  pub esc-short : (b ≡ 117 → ⊥) → is_short b ≡ true → (v : ℕ) → v ≡ short b → escape (drop i s) ≡ got v (drop (i + 1) s)
  unfolding escape
  esc-short n h v q = on-no (is 117) s i b e _ _ (ne_eqb _ _ n) ∙ on-yes is_short s i b e _ _ h ∙ ap (λ (x : ℕ). got x (drop (i + 1) s)) (sym q)

  pub esc-none : (b ≡ 117 → ⊥) → is_short b ≡ false → escape (drop i s) ≡ bad (drop i s)
  unfolding escape
  esc-none n h = on-no (is 117) s i b e _ _ (ne_eqb _ _ n) ∙ on-no is_short s i b e _ _ h
