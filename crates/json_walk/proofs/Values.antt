-- What stands at a place, taken apart: whether it is an object or an array, and what is inside.
use mathlib.Core.Path.{◌≡◌, refl, sym, ap, ◌∙◌}
use mathlib.Core.Bool.{true, false}
use mathlib.Core.Logic.{◌⊎◌, inl, inr}
use mathlib.Core.List.{tail}
use mathlib.Core.Option.{none, some}
use Prim.Native.Nat.{ℕ, suc, ◌+◌, ◌-◌}
use native.Mathlib.Omega.{arith}
use lib.Dec.{eqb}
use lib.ListN.{drop}
use borrow.Author.Tests.{eq-eqb, ne_eqb, eqb-true}
use Rattle.text.specs.Bytes.{Bytes, is}
use Rattle.text.specs.Reader.{Got, got, bad, under, first, on, when, one, loop}
use Rattle.text.specs.Places.{byte_at}
use Rattle.text.proofs.Choices.{none-some, some_same, map-inv}
use Rattle.text.proofs.Places.{on-yes, on-no}
use Rattle.text.proofs.Readers.{got-what, bind_inv, under-inv, on-inv, when-inv}
use Rattle.json_text.specs.Tree.{Json, jnull, jtrue, jfalse, jnum, jstr, jarr, jobj, Elems, enil, Members, mnil, as_array, as_object}
use Rattle.json_text.specs.Syntax.{skip, characters, number, four, scalar, item, elements, pair, pairs, value}
use Rattle.json_text.specs.Strings.{decode, decoded, decoded_elems, decoded_members}
use Rattle.json_marks.proofs.Laws.{skip-to}
use Rattle.json_scan.proofs.First.{as-array, as-object}
use Rattle.json_walk.specs.Walk.{meant, json_at, Opens, NoneOpens}

meant-inv : (x : Got Json) (v : Json) → meant x ≡ some v → (u : Json) × (w : Bytes) × (x ≡ got u w) × (decoded u ≡ some v)
meant-inv (got u w) v e = (u, w, refl, e)
meant-inv (bad w) v e = none-some e

pub at-inv : (d : ℕ) (s : Bytes) (p : ℕ) (v : Json) → json_at d s p ≡ some v → (u : Json) × (w : Bytes) × (value d (drop p s) ≡ got u w) × (decoded u ≡ some v)
unfolding json_at
at-inv d s p v e = meant-inv (value d (drop p s)) v e

-- ---- neither an array nor an object

abbrev Flat : Json → Type 0
Flat v = (as_array v ≡ none) × (as_object v ≡ none)

same-flat : (v w : Json) → w ≡ v → Flat w → Flat v
same-flat v w e h = (ap as_array (sym e) ∙ h.0, ap as_object (sym e) ∙ h.1)

four_is : (a b c d : ℕ) (j k : Json) (s t : Bytes) → four a b c d j s ≡ got k t → j ≡ k
unfolding four
four_is a b c d j k s t e =
    let p = bind_inv (one a s) _ e in
    let q = bind_inv (one b p.1) _ p.3 in
    let r = bind_inv (one c q.1) _ q.3 in
    let u = bind_inv (one d r.1) _ r.3 in
    got-what u.3

module _ (j v : Json) (f : decoded j ≡ some v) where
  scalar-flat : (s t : Bytes) → scalar s ≡ got j t → Flat v
  unfolding scalar decoded
  scalar-flat s t e = by₁ (on-inv (is 34) _ _ s e)
    where
      by₄ : ((eqb (first s) 110 ≡ true) × (four 110 117 108 108 jnull s ≡ got j t)) ⊎ ((eqb (first s) 110 ≡ false) × (under jnum (number s) ≡ got j t)) → Flat v
      by₄ (inl q) = same-flat v jnull (some_same (ap decoded (four_is 110 117 108 108 jnull j s t q.1) ∙ f)) (refl, refl)
      by₄ (inr q) = let i = under-inv jnum (number s) q.1 in same-flat v (jnum i.0) (some_same (ap decoded i.2 ∙ f)) (refl, refl)

      by₃ : ((eqb (first s) 102 ≡ true) × (four 97 108 115 101 jfalse (tail s) ≡ got j t)) ⊎ ((eqb (first s) 102 ≡ false) × (when (is 110) (four 110 117 108 108 jnull) (λ t. under jnum (number t)) s ≡ got j t)) → Flat v
      by₃ (inl q) = same-flat v jfalse (some_same (ap decoded (four_is 97 108 115 101 jfalse j (tail s) t q.1) ∙ f)) (refl, refl)
      by₃ (inr q) = by₄ (when-inv (is 110) _ _ s q.1)

      by₂ : ((eqb (first s) 116 ≡ true) × (four 116 114 117 101 jtrue s ≡ got j t)) ⊎ ((eqb (first s) 116 ≡ false) × (on (is 102) (λ c t. four 97 108 115 101 jfalse t) (when (is 110) (four 110 117 108 108 jnull) (λ t. under jnum (number t))) s ≡ got j t)) → Flat v
      by₂ (inl q) = same-flat v jtrue (some_same (ap decoded (four_is 116 114 117 101 jtrue j s t q.1) ∙ f)) (refl, refl)
      by₂ (inr q) = by₃ (on-inv (is 102) _ _ s q.1)

      by₁ : ((eqb (first s) 34 ≡ true) × (under jstr (characters (tail s)) ≡ got j t)) ⊎ ((eqb (first s) 34 ≡ false) × (when (is 116) (four 116 114 117 101 jtrue) (on (is 102) (λ c t. four 97 108 115 101 jfalse t) (when (is 110) (four 110 117 108 108 jnull) (λ t. under jnum (number t)))) s ≡ got j t)) → Flat v
      by₁ (inl q) =
          let i = under-inv jstr (characters (tail s)) q.1 in
          let k = map-inv jstr (decode i.0) (ap decoded i.2 ∙ f) in
          same-flat v (jstr k.0) k.2 (refl, refl)
      by₁ (inr q) = by₂ (when-inv (is 116) _ _ s q.1)

-- ---- an object or an array by what is inside

pub decoded-object : (us : Members) (j v : Json) → jobj us ≡ j → decoded j ≡ some v → (ms : Members) × (decoded_members us ≡ some ms) × (jobj ms ≡ v)
unfolding decoded
decoded-object us j v e f = map-inv jobj (decoded_members us) (ap decoded e ∙ f)

pub decoded-array : (us : Elems) (j v : Json) → jarr us ≡ j → decoded j ≡ some v → (es : Elems) × (decoded_elems us ≡ some es) × (jarr es ≡ v)
unfolding decoded
decoded-array us j v e f = map-inv jarr (decoded_elems us) (ap decoded e ∙ f)

-- ---- where none opens

module _ (d : ℕ) (s : Bytes) (at : ℕ) (v : Json) (h : json_at (suc d) s at ≡ some v) where
  pub not-object : NoneOpens s at 123 → as_object v ≡ none
  unfolding value
  not-object n = let u = at-inv (suc d) s at v h in by₁ u.0 u.1 u.3 (on-inv (is 91) _ _ (skip (drop at s)) u.2)
    where
      by₂ : (j : Json) (t : Bytes) → decoded j ≡ some v
          → ((eqb (first (skip (drop at s))) 123 ≡ true) × (under jobj (pairs (value d) (tail (skip (drop at s)))) ≡ got j t)) ⊎ ((eqb (first (skip (drop at s))) 123 ≡ false) × (scalar (skip (drop at s)) ≡ got j t)) → as_object v ≡ none
      by₂ j t f (inl q) = absurd (n (eqb-true _ _ q.0))
      by₂ j t f (inr q) = (scalar-flat j v f (skip (drop at s)) t q.1).1

      by₁ : (j : Json) (t : Bytes) → decoded j ≡ some v
          → ((eqb (first (skip (drop at s))) 91 ≡ true) × (under jarr (elements (value d) (tail (skip (drop at s)))) ≡ got j t))
          ⊎ ((eqb (first (skip (drop at s))) 91 ≡ false) × (on (is 123) (λ c t. under jobj (pairs (value d) t)) scalar (skip (drop at s)) ≡ got j t)) → as_object v ≡ none
      by₁ j t f (inl q) =
          let i = under-inv jarr (elements (value d) (tail (skip (drop at s)))) q.1 in
          let k = decoded-array i.0 j v i.2 f in
          ap as_object (sym k.2)
      by₁ j t f (inr q) = by₂ j t f (on-inv (is 123) _ _ (skip (drop at s)) q.1)

  pub not-array : NoneOpens s at 91 → as_array v ≡ none
  unfolding value
  not-array n = let u = at-inv (suc d) s at v h in by₁ u.0 u.1 u.3 (on-inv (is 91) _ _ (skip (drop at s)) u.2)
    where
      by₂ : (j : Json) (t : Bytes) → decoded j ≡ some v
          → ((eqb (first (skip (drop at s))) 123 ≡ true) × (under jobj (pairs (value d) (tail (skip (drop at s)))) ≡ got j t)) ⊎ ((eqb (first (skip (drop at s))) 123 ≡ false) × (scalar (skip (drop at s)) ≡ got j t)) → as_array v ≡ none
      by₂ j t f (inl q) =
          let i = under-inv jobj (pairs (value d) (tail (skip (drop at s)))) q.1 in
          let k = decoded-object i.0 j v i.2 f in
          ap as_array (sym k.2)
      by₂ j t f (inr q) = (scalar-flat j v f (skip (drop at s)) t q.1).0

      by₁ : (j : Json) (t : Bytes) → decoded j ≡ some v
          → ((eqb (first (skip (drop at s))) 91 ≡ true) × (under jarr (elements (value d) (tail (skip (drop at s)))) ≡ got j t))
          ⊎ ((eqb (first (skip (drop at s))) 91 ≡ false) × (on (is 123) (λ c t. under jobj (pairs (value d) t)) scalar (skip (drop at s)) ≡ got j t)) → as_array v ≡ none
      by₁ j t f (inl q) = absurd (n (eqb-true _ _ q.0))
      by₁ j t f (inr q) = by₂ j t f (on-inv (is 123) _ _ (skip (drop at s)) q.1)

-- ---- where one opens

module _ (d : ℕ) (s : Bytes) (at j : ℕ) where
  object-in : Opens s at 123 j → value (suc d) (drop at s) ≡ under jobj (on (is 125) (λ c t. got mnil t) (loop (pair (value d))) (drop j s))
  unfolding pairs
  object-in o =
      let z : (suc d ≡ 0 → ⊥) = λ z. omega arith in
      let n : (byte_at s o.mark ≡ 91 → ⊥) = λ z. omega (arith, o.is-mark) in
      let m : suc d - 1 ≡ d = omega arith in
      as-object s o.mark (byte_at s o.mark) refl at o.to-mark (suc d) z n o.is-mark ∙ ap (λ (x : ℕ). under jobj (pairs (value x) (drop (o.mark + 1) s))) m
      ∙ ap (λ (t : Bytes). under jobj (on (is 125) (λ c t. got mnil t) (loop (pair (value d))) t)) (skip-to o.inside)

  array-in : Opens s at 91 j → value (suc d) (drop at s) ≡ under jarr (on (is 93) (λ c t. got enil t) (loop (item (value d))) (drop j s))
  unfolding elements
  array-in o =
      let z : (suc d ≡ 0 → ⊥) = λ z. omega arith in
      let m : suc d - 1 ≡ d = omega arith in
      as-array s o.mark (byte_at s o.mark) refl at o.to-mark (suc d) z o.is-mark ∙ ap (λ (x : ℕ). under jarr (elements (value x) (drop (o.mark + 1) s))) m
      ∙ ap (λ (t : Bytes). under jarr (on (is 93) (λ c t. got enil t) (loop (item (value d))) t)) (skip-to o.inside)

  pub empty-object : Opens s at 123 j → byte_at s j ≡ 125 → value (suc d) (drop at s) ≡ got (jobj mnil) (drop (j + 1) s)
  empty-object o e = object-in o ∙ ap (under jobj) (on-yes (is 125) s j (byte_at s j) refl _ _ (eq-eqb _ _ e))

  pub some-object : Opens s at 123 j → (byte_at s j ≡ 125 → ⊥) → value (suc d) (drop at s) ≡ under jobj (loop (pair (value d)) (drop j s))
  some-object o e = object-in o ∙ ap (under jobj) (on-no (is 125) s j (byte_at s j) refl _ _ (ne_eqb _ _ e))

  pub empty-array : Opens s at 91 j → byte_at s j ≡ 93 → value (suc d) (drop at s) ≡ got (jarr enil) (drop (j + 1) s)
  empty-array o e = array-in o ∙ ap (under jarr) (on-yes (is 93) s j (byte_at s j) refl _ _ (eq-eqb _ _ e))

  pub some-array : Opens s at 91 j → (byte_at s j ≡ 93 → ⊥) → value (suc d) (drop at s) ≡ under jarr (loop (item (value d)) (drop j s))
  some-array o e = array-in o ∙ ap (under jarr) (on-no (is 93) s j (byte_at s j) refl _ _ (ne_eqb _ _ e))
