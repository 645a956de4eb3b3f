-- The units of a string of a JSON text are whole characters.
use mathlib.Core.Path.{◌≡◌, refl, ap, subst, ◌∙◌}
use mathlib.Core.Bool.{true, false, ◌&&◌}
use mathlib.Core.List.{[], ◌∷◌, ◌++◌, tail}
use mathlib.Core.Logic.{◌⊎◌, inl, inr}
use Prim.Native.Nat.{ℕ, zero, suc, ◌+◌, ◌≤◌, ◌<◌}
use native.Mathlib.Omega.{arith}
use lib.Dec.{eqb, ltb}
use borrow.Author.Tests.{ltb-true, ltb-false, lt-ltb, le-ltb, ne_eqb}
use Rattle.text.specs.Choice.{pick}
use Rattle.text.specs.Bytes.{Bytes, is, between}
use Rattle.text.specs.Utf8.{Due, start, due, broken, lead, tails, next, at_start}
use Rattle.text.specs.Reader.{got, bad, under, first, on, Step, more, last}
use Rattle.text.proofs.Cases.{by_bool, tests, implied, and_right, between-true, beyond, not-both}
use Rattle.text.proofs.Characters.{lead_high, later, later-lead, later-bounds, at-start}
use Rattle.text.proofs.Readers.{not-bad, got-what, bind_inv, under-inv, on-inv, Keeps, loop-keeps}
use Rattle.json_text.specs.Grammar.{is_hex, is_short}
use Rattle.json_text.specs.Syntax.{hex_val, hex, hex4, short, escape, leads, is_lead, tail_bytes, following, push, character, characters}

-- ---- units in whole characters

-- the state of UTF-8 along units: a byte goes on with it; a \uXXXX stands between characters
abbrev pub step_unit : Due → ℕ → Due
step_unit d u = pick (ltb u 256) (next d u) (pick (at_start d && ltb u 65792) start broken)

unfoldable pub run_units : Due → Bytes → Due
run_units d [] = d
run_units d (u ∷ us) = run_units (step_unit d u) us

abbrev pub Whole : Bytes → Type 0
Whole us = run_units start us ≡ start

-- ---- escapes

hex-high : (c : ℕ) → ltb c 128 ≡ false → is_hex c ≡ false
unfolding is_hex
hex-high c l = let h = ltb-false c 128 l in rw (beyond 48 57 c (omega arith), beyond 65 70 c (omega arith), beyond 97 102 c (omega arith))

hex-below : (c : ℕ) → is_hex c ≡ true → hex_val c < 16
unfolding is_hex hex_val between
hex-below c h = ltb-true (hex_val c) 16 (implied is_hex (λ c. ltb (hex_val c) 16) 128 c refl (hex-high c) h)

hex-given : (s : Bytes) (v : ℕ) (t : Bytes) → hex s ≡ got v t → v < 16
unfolding hex
hex-given s v t e = by (on-inv is_hex _ _ s e)
  where
    by : ((is_hex (first s) ≡ true) × (got (hex_val (first s)) (tail s) ≡ got v t)) ⊎ ((is_hex (first s) ≡ false) × (bad s ≡ got v t)) → v < 16
    by (inl w) = rw (← got-what w.1) (hex-below (first s) w.0)
    by (inr w) = absurd (not-bad w.1)

hex4-given : (s : Bytes) (v : ℕ) (t : Bytes) → hex4 s ≡ got v t → v < 65536
unfolding hex4
hex4-given s v t e =
    let i = bind_inv (hex s) _ e in
    let j = bind_inv (hex i.1) _ i.3 in
    let k = bind_inv (hex j.1) _ j.3 in
    let l = bind_inv (hex k.1) _ k.3 in
    let a = hex-given s i.0 i.1 i.2 in
    let b = hex-given i.1 j.0 j.1 j.2 in
    let c = hex-given j.1 k.0 k.1 k.2 in
    let d = hex-given k.1 l.0 l.1 l.2 in
    omega (arith, got-what l.3)

short-high : (c : ℕ) → ltb c 128 ≡ false → is_short c ≡ false
unfolding is_short
short-high c l =
    let h = ltb-false c 128 l in
    rw (ne_eqb c 34 (omega arith), ne_eqb c 92 (omega arith), ne_eqb c 47 (omega arith), ne_eqb c 98 (omega arith), ne_eqb c 102 (omega arith), ne_eqb c 110 (omega arith), ne_eqb c 114 (omega arith), ne_eqb c 116 (omega arith))

short-step : (c : ℕ) → is_short c ≡ true → step_unit start (short c) ≡ start
unfolding is_short short next lead
short-step c h = at-start (step_unit start (short c)) (implied is_short (λ c. at_start (step_unit start (short c))) 128 c refl (short-high c) h)

wide_step : (v : ℕ) → v < 65536 → step_unit start (256 + v) ≡ start
wide_step v l = rw (le-ltb (256 + v) 256 (omega arith), lt-ltb (256 + v) 65792 (omega arith))

escape-step : (s : Bytes) (u : ℕ) (t : Bytes) → escape s ≡ got u t → step_unit start u ≡ start
unfolding escape
escape-step s u t e = by (on-inv (is 117) _ _ s e)
  where
    by₁ : ((is_short (first s) ≡ true) × (got (short (first s)) (tail s) ≡ got u t)) ⊎ ((is_short (first s) ≡ false) × (bad s ≡ got u t)) → step_unit start u ≡ start
    by₁ (inl w) = subst (λ x. step_unit start x ≡ start) (got-what w.1) (short-step (first s) w.0)
    by₁ (inr w) = absurd (not-bad w.1)

    by : ((eqb (first s) 117 ≡ true) × (under (λ v. 256 + v) (hex4 (tail s)) ≡ got u t)) ⊎ ((eqb (first s) 117 ≡ false) × (on is_short (λ c t. got (short c) t) bad s ≡ got u t)) → step_unit start u ≡ start
    by (inl w) = let i = under-inv (λ v. 256 + v) (hex4 (tail s)) w.1 in subst (λ x. step_unit start x ≡ start) i.2 (wide_step i.0 (hex4-given (tail s) i.0 t i.1))
    by (inr w) = by₁ (on-inv is_short _ _ s w.1)

-- ---- characters of several bytes

byte_step : (d : Due) (c : ℕ) → ltb c 256 ≡ true → step_unit d c ≡ next d c
byte_step d c l = rw l

due-step : (low high k c : ℕ) → high ≤ 191 → between low high c ≡ true → step_unit (due low high k) c ≡ tails k
unfolding next
due-step low high k c h q = rw (lt-ltb c 256 (omega (arith, (between-true low high c q).1)), q)

one-due : (low high k c : ℕ) (cs us : Bytes) → high ≤ 191 → between low high c ≡ true → run_units (tails k) (cs ++ us) ≡ run_units start us → run_units (due low high k) (c ∷ (cs ++ us)) ≡ run_units start us
unfolding run_units
one-due low high k c cs us h q e = ap (λ (d : Due). run_units d (cs ++ us)) (due-step low high k c h q) ∙ e

-- a byte that is due and the tails after it; those are known to end the character
due-units : (low high k : ℕ) (s cs t us : Bytes) → high ≤ 191 → ((xs : Bytes) → tail_bytes k (tail s) ≡ got xs t → run_units (tails k) (xs ++ us) ≡ run_units start us)
    → on (between low high) (λ c t. under (λ xs. c ∷ xs) (tail_bytes k t)) bad s ≡ got cs t → run_units (due low high k) (cs ++ us) ≡ run_units start us
due-units low high k s cs t us h r e = by (on-inv (between low high) _ _ s e)
  where
    by : ((between low high (first s) ≡ true) × (under (λ xs. first s ∷ xs) (tail_bytes k (tail s)) ≡ got cs t)) ⊎ ((between low high (first s) ≡ false) × (bad s ≡ got cs t))
        → run_units (due low high k) (cs ++ us) ≡ run_units start us
    by (inl w) =
        let i = under-inv (λ xs. first s ∷ xs) (tail_bytes k (tail s)) w.1 in
        rw (← i.2) (one-due low high k (first s) i.0 us h w.0 (r i.0 i.1))
    by (inr w) = absurd (not-bad w.1)

tails-units : (k : ℕ) (s cs t us : Bytes) → tail_bytes k s ≡ got cs t → run_units (tails k) (cs ++ us) ≡ run_units start us
unfolding tail_bytes
tails-units zero s cs t us e = rw (← got-what e)
tails-units (suc k) s cs t us e = due-units 0x80 0xbf k s cs t us (omega arith) (λ xs q. tails-units k (tail s) xs t us q) e

following-units : (d : Due) (s cs t us : Bytes) → later d ≡ true → following d s ≡ got cs t → run_units d (cs ++ us) ≡ run_units start us
unfolding following
following-units start s cs t us l e = rw (← got-what e)
following-units (due low high k) s cs t us l e = due-units low high k s cs t us (later-bounds low high k l).1 (λ xs q. tails-units k (tail s) xs t us q) e
following-units broken s cs t us l e = absurd (not-bad e)

-- ---- every turn keeps whole characters

lead-below : (c : ℕ) → is_lead c ≡ true → ltb c 256 ≡ true
unfolding is_lead
lead-below c h = by_bool (ltb c 256) (λ e. e) (λ e. not-both (and_right (ltb 127 c) _ h) (ap leads (lead_high c e)))

plain_step : (c : ℕ) → between 32 127 c ≡ true → step_unit start c ≡ start
unfolding between next lead
plain_step c h = at-start (step_unit start c) (implied (between 32 127) (λ c. at_start (step_unit start c)) 128 c refl (λ l. beyond 32 127 c (omega tests)) h)

whole-cons : (u : ℕ) (us : Bytes) → step_unit start u ≡ start → Whole us → Whole (u ∷ us)
unfolding run_units
whole-cons u us e w = ap (λ (d : Due). run_units d us) e ∙ w

whole_wide : (c : ℕ) (s cs t us : Bytes) → is_lead c ≡ true → following (lead c) s ≡ got cs t → Whole us → Whole (c ∷ (cs ++ us))
unfolding run_units next
whole_wide c s cs t us l e w = ap (λ (d : Due). run_units d (cs ++ us)) (byte_step start c (lead-below c l)) ∙ following-units (lead c) s cs t us (later-lead c) e ∙ w

module _ (s : Bytes) (step : Step Bytes) (t : Bytes) where
  by-lead : ((is_lead (first s) ≡ true) × (under (λ cs. more (λ us. first s ∷ (cs ++ us))) (following (lead (first s)) (tail s)) ≡ got step t)) ⊎ ((is_lead (first s) ≡ false) × (bad s ≡ got step t)) → Keeps Whole step
  by-lead (inl w) =
      let i = under-inv (λ cs. more (λ us. first s ∷ (cs ++ us))) (following (lead (first s)) (tail s)) w.1 in
      subst (Keeps Whole) i.2 (λ us h. whole_wide (first s) (tail s) i.0 t us w.0 i.1 h)
  by-lead (inr w) = absurd (not-bad w.1)

  by-plain : ((between 32 127 (first s) ≡ true) × (got (push (first s)) (tail s) ≡ got step t))
      ⊎ ((between 32 127 (first s) ≡ false) × (on is_lead (λ c t. under (λ cs. more (λ us. c ∷ (cs ++ us))) (following (lead c) t)) bad s ≡ got step t)) → Keeps Whole step
  by-plain (inl w) = subst (Keeps Whole) (got-what w.1) (λ us h. whole-cons (first s) us (plain_step (first s) w.0) h)
  by-plain (inr w) = by-lead (on-inv is_lead _ _ s w.1)

  by-escape : ((eqb (first s) 92 ≡ true) × (under push (escape (tail s)) ≡ got step t))
      ⊎ ((eqb (first s) 92 ≡ false) × (on (between 32 127) (λ c t. got (push c) t) (on is_lead (λ c t. under (λ cs. more (λ us. c ∷ (cs ++ us))) (following (lead c) t)) bad) s ≡ got step t)) → Keeps Whole step
  by-escape (inl w) =
      let i = under-inv push (escape (tail s)) w.1 in
      subst (Keeps Whole) i.2 (λ us h. whole-cons i.0 us (escape-step (tail s) i.0 t i.1) h)
  by-escape (inr w) = by-plain (on-inv (between 32 127) _ _ s w.1)

  by-quote : ((eqb (first s) 34 ≡ true) × (got (last []) (tail s) ≡ got step t))
      ⊎ ((eqb (first s) 34 ≡ false) × (on (is 92) (λ c t. under push (escape t)) (on (between 32 127) (λ c t. got (push c) t) (on is_lead (λ c t. under (λ cs. more (λ us. c ∷ (cs ++ us))) (following (lead c) t)) bad)) s ≡ got step t)) → Keeps Whole step
  unfolding run_units
  by-quote (inl w) = subst (Keeps Whole) (got-what w.1) refl
  by-quote (inr w) = by-escape (on-inv (is 92) _ _ s w.1)

  character-keeps : character s ≡ got step t → Keeps Whole step
  unfolding character
  character-keeps e = by-quote (on-inv (is 34) _ _ s e)

pub characters-whole : (s us t : Bytes) → characters s ≡ got us t → Whole us
unfolding characters
characters-whole s us t e = loop-keeps character Whole character-keeps s us t e
