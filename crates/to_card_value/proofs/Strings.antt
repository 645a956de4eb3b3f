-- Strings at places.
use mathlib.Core.Path.{◌≡◌, refl, sym, ap, subst, ◌∙◌}
use mathlib.Core.Bool.{true, false}
use mathlib.Core.Logic.{◌⊎◌, inl, inr}
use mathlib.Core.List.{[], ◌∷◌, tail}
use mathlib.Core.Option.{Option, none, some}
use Prim.Native.Nat.{ℕ, zero, suc, ◌+◌, ◌-◌, ◌<◌}
use native.Mathlib.Omega.{arith}
use lib.Dec.{eqb}
use lib.ListN.{length, drop}
use borrow.Author.Tests.{eq-eqb, ne_eqb, eqb-true, eqb-false}
use Rattle.text.specs.Choice.{chain}
use Rattle.text.specs.Bytes.{Bytes, is}
use Rattle.text.specs.Reader.{got, under, first, on, when, one}
use Rattle.text.specs.Places.{byte_at, Passes}
use Rattle.text.proofs.Cases.{by_bool, not-both}
use Rattle.text.proofs.Choices.{some_same, map-inv}
use Rattle.text.proofs.Readers.{got-what, bind_inv, under-inv, on-inv, when-inv}
use Rattle.json_text.specs.Grammar.{is_space}
use Rattle.json_text.specs.Tree.{Json, jnull, jtrue, jfalse, jnum, jstr, jarr, jobj, Elems, Members, as_string}
use Rattle.json_text.specs.Syntax.{characters, number, four, scalar, elements, pairs, value}
use Rattle.json_text.specs.Strings.{decode, decoded, decoded_elems, decoded_members}
use Rattle.json_scan.proofs.First.{as-flat, as-scalar, as-array, as-object}
use Rattle.json_strings.proofs.Laws.{decoded-is}
use Rattle.text.proofs.Places.{on-yes}
use Rattle.json_index.proofs.Objects.{at-inv}
use Rattle.to_card_params.proofs.Walk.{slot-none, slot-some, none-past}
use Rattle.to_card_value.specs.Values.{StringIs, TellsString, TellsText}

-- ---- values that are no strings

four_is : (a b c d : ℕ) (j k : Json) (s t : Bytes) → four a b c d j s ≡ got k t → j ≡ k
unfolding four
four_is a b c d j k s t e =
    let p = bind_inv (one a s) _ e in
    let q = bind_inv (one b p.1) _ p.3 in
    let r = bind_inv (one c q.1) _ q.3 in
    let u = bind_inv (one d r.1) _ r.3 in
    got-what u.3

no-string : (v w : Json) → w ≡ v → as_string w ≡ none → as_string v ≡ none
no-string v w e h = ap as_string (sym e) ∙ h

module _ (j v : Json) (f : decoded j ≡ some v) where
  is-null : jnull ≡ j → as_string v ≡ none
  unfolding decoded
  is-null e = no-string v jnull (some_same (ap decoded e ∙ f)) refl

  is_true : jtrue ≡ j → as_string v ≡ none
  unfolding decoded
  is_true e = no-string v jtrue (some_same (ap decoded e ∙ f)) refl

  is_false : jfalse ≡ j → as_string v ≡ none
  unfolding decoded
  is_false e = no-string v jfalse (some_same (ap decoded e ∙ f)) refl

  is_number : (x : Bytes) → jnum x ≡ j → as_string v ≡ none
  unfolding decoded
  is_number x e = no-string v (jnum x) (some_same (ap decoded e ∙ f)) refl

  is-array : (x : Elems) → jarr x ≡ j → as_string v ≡ none
  unfolding decoded
  is-array x e = let i = map-inv jarr (decoded_elems x) (ap decoded e ∙ f) in no-string v (jarr i.0) i.2 refl

  is-object : (x : Members) → jobj x ≡ j → as_string v ≡ none
  unfolding decoded
  is-object x e = let i = map-inv jobj (decoded_members x) (ap decoded e ∙ f) in no-string v (jobj i.0) i.2 refl

  is-string : (us : Bytes) → jstr us ≡ j → (x : Bytes) × (decode us ≡ some x) × (jstr x ≡ v)
  unfolding decoded
  is-string us e = map-inv jstr (decode us) (ap decoded e ∙ f)

  -- a scalar whose first byte is no quote
  other-scalar : (s t : Bytes) → eqb (first s) 34 ≡ false → scalar s ≡ got j t → as_string v ≡ none
  unfolding scalar
  other-scalar s t n e = by₁ (on-inv (is 34) _ _ s e)
    where
      by₄ : ((eqb (first s) 110 ≡ true) × (four 110 117 108 108 jnull s ≡ got j t)) ⊎ ((eqb (first s) 110 ≡ false) × (under jnum (number s) ≡ got j t)) → as_string v ≡ none
      by₄ (inl q) = is-null (four_is 110 117 108 108 jnull j s t q.1)
      by₄ (inr q) = let i = under-inv jnum (number s) q.1 in is_number i.0 i.2

      by₃ : ((eqb (first s) 102 ≡ true) × (four 97 108 115 101 jfalse (tail s) ≡ got j t)) ⊎ ((eqb (first s) 102 ≡ false) × (when (is 110) (four 110 117 108 108 jnull) (λ t. under jnum (number t)) s ≡ got j t)) → as_string v ≡ none
      by₃ (inl q) = is_false (four_is 97 108 115 101 jfalse j (tail s) t q.1)
      by₃ (inr q) = by₄ (when-inv (is 110) _ _ s q.1)

      by₂ : ((eqb (first s) 116 ≡ true) × (four 116 114 117 101 jtrue s ≡ got j t)) ⊎ ((eqb (first s) 116 ≡ false) × (on (is 102) (λ c t. four 97 108 115 101 jfalse t) (when (is 110) (four 110 117 108 108 jnull) (λ t. under jnum (number t))) s ≡ got j t)) → as_string v ≡ none
      by₂ (inl q) = is_true (four_is 116 114 117 101 jtrue j s t q.1)
      by₂ (inr q) = by₃ (on-inv (is 102) _ _ s q.1)

      by₁ : ((eqb (first s) 34 ≡ true) × (under jstr (characters (tail s)) ≡ got j t)) ⊎ ((eqb (first s) 34 ≡ false) × (when (is 116) (four 116 114 117 101 jtrue) (on (is 102) (λ c t. four 97 108 115 101 jfalse t) (when (is 110) (four 110 117 108 108 jnull) (λ t. under jnum (number t)))) s ≡ got j t)) → as_string v ≡ none
      by₁ (inl q) = not-both q.0 n
      by₁ (inr q) = by₂ (when-inv (is 116) _ _ s q.1)

-- ---- by the first byte

byte-first : (s : Bytes) (i b : ℕ) → b ≡ byte_at s i → first (drop i s) ≡ b
byte-first s i b e = go s i ∙ sym e
  where
    go : (s : Bytes) (i : ℕ) → first (drop i s) ≡ byte_at s i
    go [] zero = refl
    go [] (suc i) = refl
    go (c ∷ s) zero = refl
    go (c ∷ s) (suc i) = go s i

module _ (s : Bytes) (at i b : ℕ) (h : Passes is_space s at i) (e : b ≡ byte_at s i) where
  string-is : (r : ℕ) (v : Json) (o : Option Bytes) → as_string v ≡ o → StringIs s r o → StringIs s r (as_string v)
  string-is r v o q x = subst (StringIs s r) (sym q) x

  pub string-here : b ≡ 34 → TellsString s at (i + 1)
  unfolding scalar
  string-here q d v w =
      let u = at-inv d s at v w in
      let n : (b ≡ 91 → ⊥) = λ z. omega arith in
      let m : (b ≡ 123 → ⊥) = λ z. omega arith in
      let x = under-inv jstr (characters (drop (i + 1) s)) (sym (as-scalar s i b e at h d n m ∙ on-yes (is 34) s i b e _ _ (eq-eqb _ _ q)) ∙ u.2) in
      let y = is-string u.0 v u.3 x.0 x.2 in
      string-is (i + 1) v (some y.0) (ap as_string (sym y.2)) (omega arith, decoded-is s (i + 1) x.0 u.1 x.1 ∙ y.1)

  pub no-string-here : (b ≡ 34 → ⊥) → TellsString s at 0
  no-string-here n d v w =
      let u = at-inv d s at v w in
      let f : eqb (first (drop i s)) 34 ≡ false = ap (λ (c : ℕ). eqb c 34) (byte-first s i b e) ∙ ne_eqb b 34 n in
      string-is 0 v none (by d u f) refl
    where
      by : (d : ℕ) (u : (x : Json) × (t : Bytes) × (value d (drop at s) ≡ got x t) × (decoded x ≡ some v)) → eqb (first (drop i s)) 34 ≡ false → as_string v ≡ none
      by zero u f = other-scalar u.0 v u.3 (drop i s) u.1 f (sym (as-flat s at i h zero refl) ∙ u.2)
      by (suc d) u f =
          let z : (suc d ≡ 0 → ⊥) = λ z. omega arith in
          by_bool (eqb b 91)
          (λ p. let x = under-inv jarr (elements (value (suc d - 1)) (drop (i + 1) s)) (sym (as-array s i b e at h (suc d) z (eqb-true b 91 p)) ∙ u.2) in is-array u.0 v u.3 x.0 x.2)
          (λ p. by_bool (eqb b 123)
          (λ q. let x = under-inv jobj (pairs (value (suc d - 1)) (drop (i + 1) s)) (sym (as-object s i b e at h (suc d) z (eqb-false b 91 p) (eqb-true b 123 q)) ∙ u.2) in is-object u.0 v u.3 x.0 x.2)
          (λ q. other-scalar u.0 v u.3 (drop i s) u.1 f (sym (as-scalar s i b e at h (suc d) (eqb-false b 91 p) (eqb-false b 123 q)) ∙ u.2)))

pub string-past : (s : Bytes) (at : ℕ) → length s < at → TellsString s at 0
string-past s at h d v w = none-past d s at v h w

-- ---- by the slot

pub text-absent : (s : Bytes) (slot : ℕ) → slot ≡ 0 → TellsText s slot 0
text-absent s slot e d o h = subst (StringIs s 0) (ap (λ (x : Option Json). chain x as_string) (sym (slot-none h e))) refl

pub text-there : (s : Bytes) (slot r : ℕ) → (slot ≡ 0 → ⊥) → TellsString s slot r → TellsText s slot r
text-there s slot r n t d o h = let v = slot-some h n in subst (StringIs s r) (ap (λ (x : Option Json). chain x as_string) (sym v.1)) (t d v.0 v.2)
