-- Where a value ends, by its first byte.
use mathlib.Core.Path.{◌≡◌, refl, sym, ap, ◌∙◌}
use mathlib.Core.Bool.{true, false, ◌||◌}
use mathlib.Core.List.{[], ◌∷◌}
use Prim.Native.Nat.{ℕ, zero, suc, ◌+◌, ◌-◌, ◌<◌}
use native.Mathlib.Omega.{arith}
use lib.ListN.{length, drop, drop_of_length-le}
use lib.Dec.{eqb}
use borrow.Author.Tests.{eq-eqb, eqb-true, eqb-false}
use Rattle.std.specs.Prelude.{Ok, Err}
use Rattle.text.specs.Bytes.{Bytes, is, between}
use Rattle.text.specs.Reader.{bad, on, when, past, some_of}
use Rattle.text.specs.Places.{byte_at, Gives, Passes}
use Rattle.text.proofs.Cases.{by_bool, or_left, or_right}
use Rattle.text.proofs.Places.{byte-default, on-yes, at_next, at-bad}
use Rattle.text.proofs.Readers.{not-bad, got-rest, under-inv}
use Rattle.json_text.specs.Grammar.{is_space}
use Rattle.json_text.specs.Tree.{jstr, jarr, jobj}
use Rattle.json_text.specs.Syntax.{skip, characters, opt, digits, int, number, scalar, elements, pairs, value}
use Rattle.json_scan.proofs.First.{as-flat, as-scalar, as-array, as-object}
use Rattle.json_skip.specs.Skip.{quoted, outside, closed, Leaves, Skips}
use Rattle.json_skip.proofs.Steps.{opened}
use Rattle.json_skip.proofs.Strings.{characters-leads}
use Rattle.json_skip.proofs.Values.{elements-lead, pairs-lead, value-leads}

-- past the end of a text nothing is read
pub no_value : (d : ℕ) → value d [] ≡ bad []
unfolding value scalar number opt int digits some_of skip past on when between
no_value zero = refl
no_value (suc d) = refl

pub skips-past : (s : Bytes) (at r : ℕ) → length s < at → Skips s at r
skips-past s at r l d j u e =
    let z : drop at s ≡ [] = drop_of_length-le s {i = at} (omega arith) in
    absurd (not-bad (sym (ap (value d) z ∙ no_value d) ∙ e))

-- no scalar begins with a bracket
no-bracket : (t : Bytes) → scalar (91 ∷ t) ≡ bad (91 ∷ t)
unfolding scalar number opt int digits some_of on when between
no-bracket t = refl

no-brace : (t : Bytes) → scalar (123 ∷ t) ≡ bad (123 ∷ t)
unfolding scalar number opt int digits some_of on when between
no-brace t = refl

-- a bracket is a byte
pub bracket-byte : (b : ℕ) → eqb b 91 || eqb b 123 ≡ true → b < 256
bracket-byte b q =
    by_bool (eqb b 91)
    (λ o. omega (arith, eqb-true b 91 o))
    (λ o. let z : eqb b 123 ≡ true = rw o at q in omega (arith, eqb-true b 123 z))

module _ (s : Bytes) (at i b : ℕ) (h : Passes is_space s at i) (e : b ≡ byte_at s i) (r : ℕ) where
  pub skips-string : b ≡ 34 → Leaves s (i + 1) (quoted false (drop (i + 1) s)) r → Skips s at r
  unfolding scalar
  skips-string q l d j u x =
      let y = sym (on-yes (is 34) s i b e _ _ (eq-eqb _ _ q)) ∙ sym (as-scalar s i b e at h d (λ z. omega arith) (λ z. omega arith)) ∙ x in
      let k = under-inv jstr (characters (drop (i + 1) s)) y in
      sym (characters-leads (drop (i + 1) s) k.0 u k.1) ∙ l.is

  -- from the first byte on
  here : i < length s → {k : ℕ} → b ≡ k → drop i s ≡ k ∷ drop (i + 1) s
  here l q = opened s i l ∙ ap (λ (c : ℕ). c ∷ drop (i + 1) s) (byte-default s i 0 256 l ∙ sym e ∙ q)

  skips-array : b ≡ 91 → Leaves s (i + 1) (closed outside 0 (drop (i + 1) s)) r → Skips s at r
  skips-array q l zero j u x =
      let m : i < length s = omega (arith, l.from, l.to) in
      absurd (not-bad (sym (as-flat s at i h 0 refl ∙ ap scalar (here m q) ∙ no-bracket (drop (i + 1) s)) ∙ x))
  skips-array q l (suc d) j u x =
      let n : (suc d ≡ 0 → ⊥) = λ z. omega arith in
      let k = under-inv jarr (elements (value (suc d - 1)) (drop (i + 1) s)) (sym (as-array s i b e at h (suc d) n q) ∙ x) in
      sym (elements-lead 0 (value (suc d - 1)) (value-leads (suc d - 1) 0) (drop (i + 1) s) k.0 u k.1) ∙ l.is

  skips-object : (b ≡ 91 → ⊥) → b ≡ 123 → Leaves s (i + 1) (closed outside 0 (drop (i + 1) s)) r → Skips s at r
  skips-object o q l zero j u x =
      let m : i < length s = omega (arith, l.from, l.to) in
      absurd (not-bad (sym (as-flat s at i h 0 refl ∙ ap scalar (here m q) ∙ no-brace (drop (i + 1) s)) ∙ x))
  skips-object o q l (suc d) j u x =
      let n : (suc d ≡ 0 → ⊥) = λ z. omega arith in
      let k = under-inv jobj (pairs (value (suc d - 1)) (drop (i + 1) s)) (sym (as-object s i b e at h (suc d) n o q) ∙ x) in
      sym (pairs-lead 0 (value (suc d - 1)) (value-leads (suc d - 1) 0) (drop (i + 1) s) k.0 u k.1) ∙ l.is

  -- either bracket
  pub skips-bracket : eqb b 91 || eqb b 123 ≡ true → Leaves s (i + 1) (closed outside 0 (drop (i + 1) s)) r → Skips s at r
  skips-bracket q l =
      by_bool (eqb b 91)
      (λ o. skips-array (eqb-true b 91 o) l)
      (λ o. let z : eqb b 123 ≡ true = rw o at q in skips-object (eqb-false b 91 o) (eqb-true b 123 z) l)

  module _ (o : eqb b 91 || eqb b 123 ≡ false) where
    no-array : b ≡ 91 → ⊥
    no-array = eqb-false b 91 (or_left (eqb b 91) (eqb b 123) o)

    no-object : b ≡ 123 → ⊥
    no-object = eqb-false b 123 (or_right (eqb b 91) (eqb b 123) o)

    pub skips-scalar : Gives s i (scalar (drop i s)) (Ok r) → Skips s at r
    skips-scalar g d j u x = got-rest (sym x ∙ as-scalar s i b e at h d no-array no-object ∙ (at_next (scalar (drop i s)) g).1)

    pub skips-none : Gives s i (scalar (drop i s)) (Err r) → Skips s at r
    skips-none g d j u x = absurd (not-bad (sym (as-scalar s i b e at h d no-array no-object ∙ at-bad (scalar (drop i s)) g) ∙ x))
