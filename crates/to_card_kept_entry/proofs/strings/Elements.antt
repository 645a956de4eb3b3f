-- The elements of an array, one after the other.
use mathlib.Core.Path.{◌≡◌, refl, sym, ap, ◌∙◌}
use mathlib.Core.Logic.{◌⊎◌, ⊎_elim}
use mathlib.Core.List.{[], ◌∷◌}
use mathlib.Core.Option.{some}
use Prim.Native.Nat.{ℕ, zero, suc, ◌+◌, ◌-◌}
use native.Mathlib.Omega.{arith}
use lib.Dec.{eqb}
use lib.ListN.{drop}
use borrow.Author.Tests.{eq-eqb, ne_eqb, eqb-true, eqb-false}
use Rattle.text.specs.Places.{Read}
use Rattle.std.proofs.Common.{Continue, Break}
use Rattle.text.specs.Bytes.{Bytes, is}
use Rattle.text.specs.Reader.{Got, got, under, on, Step, more, last, after, loop}
use Rattle.text.specs.Places.{GivesT, byte_at, Passes}
use Rattle.text.proofs.Choices.{some_same, map-inv, both-inv}
use Rattle.text.proofs.Cases.{by_bool}
use Rattle.text.proofs.Places.{on-yes, on-no}
use Rattle.text.proofs.Fine.{Takes, got-what, bind_inv, under-inv, loop-more, loop-split}
use Rattle.json_text.specs.Grammar.{is_space}
use Rattle.json_text.specs.Tree.{Json, jnull, jtrue, jfalse, jnum, jstr, jarr, jobj, Elems, enil, econs, elems_of}
use Rattle.json_text.specs.Syntax.{sep, item, elements, value}
use Rattle.json_text.specs.Strings.{decode, decoded, decoded_elems, decoded_members}
use Rattle.json_text.proofs.Fine.{value-fine, item-fine}
use Rattle.json_marks.proofs.Laws.{skip-to}
use Rattle.json_marks.proofs.Separators.{sep-adds, sep-go, sep-stop}
use Rattle.json_scan.proofs.First.{as-array}
use Rattle.json_access.specs.declared.Part.{Part}
use Rattle.json_access.specs.declared.Kind.{Kind}
use Rattle.json_access.specs.declared.Kind.TheVariants.{Null, True, False, Number, String, Array, Object}
use Rattle.json_access.specs.Access.{place_of, EndsAt, TellsElement, kind_of}
use Rattle.json_access.proofs.First.{is-object, is-string, is_true, is_false, is-null, is_number}
use Rattle.json_index.specs.Index.{json_at}
use Rattle.json_index.proofs.Objects.{at-inv}
use Rattle.json_index.proofs.Laws.{stands_at, last_end}

item-takes : (d : ℕ) → Takes (item (value d))
item-takes d s a w e = (item-fine (value d) (value-fine d)).less s a w e

elems-tail : (j : Json) (f : Bytes → Got Elems) (w : Step Elems) (v : Bytes) (rest : Elems) (t : Bytes) → (w ≡ last (econs j enil)) ⊎ (w ≡ more (econs j)) → after w v f ≡ got rest t → (us : Elems) × (rest ≡ econs j us)
elems-tail j f w v rest t o e =
    ⊎_elim (λ q. (enil, sym (got-what (rw q at e))))
    (λ q. let i = under-inv (econs j) (f v) (rw q at e) in (i.0, sym i.2)) o

-- the element at i, and the others
pub record HereE (d : ℕ) (s : Bytes) (i : ℕ) (rest : Elems) : Type 0 where
  pub val : Json
  pub rest-val : Bytes
  pub others : Elems
  pub is-value : value d (drop i s) ≡ got val rest-val
  pub turn : item (value d) (drop i s) ≡ sep 93 (econs val enil) (econs val) rest-val
  pub is : rest ≡ econs val others

turn-of : (d : ℕ) (s : Bytes) (j : Json) (u : Bytes) → value d s ≡ got j u → item (value d) s ≡ sep 93 (econs j enil) (econs j) u
unfolding item
turn-of d s j u e = rw e

pub item-here : (d : ℕ) (s : Bytes) (i : ℕ) (rest : Elems) (t : Bytes) → loop (item (value d)) (drop i s) ≡ got rest t → HereE d s i rest
unfolding item
item-here d s i rest t e =
    let l = loop-split (item (value d)) (item-takes d) (drop i s) rest t e in
    let b = bind_inv (value d (drop i s)) (λ j u. sep 93 (econs j enil) (econs j) u) l.2 in
    let r = elems-tail b.0 (loop (item (value d))) l.0 l.1 rest t (sep-adds (econs b.0 enil) (econs b.0) 93 b.1 l.0 l.1 b.3) l.3 in
    record { val = b.0; rest-val = b.1; others = r.0; is-value = b.2; turn = turn-of d (drop i s) b.0 b.1 b.2; is = r.1 }

module _ (d : ℕ) (s : Bytes) (i : ℕ) (rest : Elems) (t : Bytes) (e : loop (item (value d)) (drop i s) ≡ got rest t) (z : HereE d s i rest) (x : ℕ) (ends : z.rest-val ≡ drop x s) where
  pub elems-on : (j : ℕ) → GivesT s x (sep 93 zero suc (drop x s)) (Continue j) → (us : Elems) × (loop (item (value d)) (drop j s) ≡ got us t) × (econs z.val us ≡ rest)
  elems-on j w =
      let f : item (value d) (drop i s) ≡ got (more (econs z.val)) (drop j s) = z.turn ∙ ap (sep 93 _ _) ends ∙ sep-go (econs z.val enil) (econs z.val) 93 w in
      under-inv (econs z.val) (loop (item (value d)) (drop j s)) (sym (loop-more (item (value d)) (item-takes d) (drop i s) (drop j s) (econs z.val) f) ∙ e)

  pub elems-none : (r : Read) → GivesT s x (sep 93 zero suc (drop x s)) (Break r) → econs z.val enil ≡ rest
  elems-none r w =
      let l = loop-split (item (value d)) (item-takes d) (drop i s) rest t e in
      let n = sep-stop (econs z.val enil) (econs z.val) 93 w l.0 l.1 (sym (ap (sep 93 _ _) ends) ∙ sym z.turn ∙ l.2) in
      got-what (rw n at l.3)

  -- what is left after the last
  pub elems-end : (r : Read) → GivesT s x (sep 93 zero suc (drop x s)) (Break r) → t ≡ drop (place_of r) s
  elems-end r w = last_end (item (value d)) (item-takes d) s i x rest t e 93 (econs z.val enil) (econs z.val) (z.turn ∙ ap (sep 93 _ _) ends) r w

-- ---- decoded

pub record NextE (j : Json) (us es : Elems) : Type 0 where
  pub val : Json
  pub others : Elems
  pub is-val : decoded j ≡ some val
  pub is-others : decoded_elems us ≡ some others
  pub is : econs val others ≡ es

pub next_elem : (j : Json) (us es : Elems) → decoded_elems (econs j us) ≡ some es → NextE j us es
unfolding decoded_elems
next_elem j us es e =
    let i = both-inv econs (decoded j) (decoded_elems us) e in
    record { val = i.0; others = i.1; is-val = i.2; is-others = i.3; is = i.4 }

pub elems-nil : elems_of enil ≡ []
unfolding elems_of
elems-nil = refl

pub elems-cons : (v : Json) (es : Elems) → elems_of (econs v es) ≡ v ∷ elems_of es
unfolding elems_of
elems-cons v es = refl

pub enil-decoded : (es : Elems) → decoded_elems enil ≡ some es → enil ≡ es
unfolding decoded_elems
enil-decoded es e = some_same e

-- the element that a call of `element_at` found
pub elem-stands : (d : ℕ) (s : Bytes) (i : ℕ) (rest : Elems) (z : HereE d s i rest) (r : Part) → TellsElement d s i r → (z.rest-val ≡ drop r.end s) × ((v : Json) → decoded z.val ≡ some v → json_at d s r.start ≡ some v)
elem-stands d s i rest z r told =
    let w = told z.val z.rest-val z.is-value in
    (w.ends, λ v q. stands_at d s (drop i s) z.rest-val z.val v r.start r.end w z.is-value q)

-- ---- an array by its first bytes

decoded-array : (us : Elems) (j v : Json) → jarr us ≡ j → decoded j ≡ some v → (es : Elems) × (decoded_elems us ≡ some es) × (jarr es ≡ v)
unfolding decoded
decoded-array us j v e f = map-inv jarr (decoded_elems us) (ap decoded e ∙ f)

module _ (d : ℕ) (s : Bytes) (at i b : ℕ) (h : Passes is_space s at i) (e : b ≡ byte_at s i) (q : b ≡ 91) where
  opened : value (suc d) (drop at s) ≡ under jarr (elements (value d) (drop (i + 1) s))
  opened =
      let z : (suc d ≡ 0 → ⊥) = λ z. omega arith in
      let m : suc d - 1 ≡ d = omega arith in
      as-array s i b e at h (suc d) z q ∙ ap (λ (x : ℕ). under jarr (elements (value x) (drop (i + 1) s))) m

  module _ (j c : ℕ) (k : Passes is_space s (i + 1) j) (f : c ≡ byte_at s j) where
    none_in : c ≡ 93 → elements (value d) (drop (i + 1) s) ≡ got enil (drop (j + 1) s)
    unfolding elements
    none_in p = ap (on (is 93) _ _) (skip-to k) ∙ on-yes (is 93) s j c f _ _ (eq-eqb _ _ p)

    some_in : (c ≡ 93 → ⊥) → elements (value d) (drop (i + 1) s) ≡ loop (item (value d)) (drop j s)
    unfolding elements
    some_in n = ap (on (is 93) _ _) (skip-to k) ∙ on-no (is 93) s j c f _ _ (ne_eqb _ _ n)

    pub empty-array : c ≡ 93 → (v : Json) → json_at (suc d) s at ≡ some v → v ≡ jarr enil
    empty-array p v w =
        let u = at-inv (suc d) s at v w in
        let x : got (jarr enil) (drop (j + 1) s) ≡ got u.0 u.1 = sym (opened ∙ ap (under jarr) (none_in p)) ∙ u.2 in
        let m = decoded-array enil u.0 v (got-what x) u.3 in
        sym (ap jarr (enil-decoded m.0 m.1) ∙ m.2)

    -- the elements of an array that is not empty, from the place of the first on
    pub array-elems : (c ≡ 93 → ⊥) → (v : Json) → json_at (suc d) s at ≡ some v
        → (us : Elems) × (es : Elems) × (t : Bytes) × (loop (item (value d)) (drop j s) ≡ got us t) × (decoded_elems us ≡ some es) × (v ≡ jarr es)
    array-elems n v w =
        let u = at-inv (suc d) s at v w in
        let x = under-inv jarr (loop (item (value d)) (drop j s)) (sym (opened ∙ ap (under jarr) (some_in n)) ∙ u.2) in
        let m = decoded-array x.0 u.0 v x.2 u.3 in
        (x.0, m.0, u.1, x.1, m.1, sym m.2)

    -- what is left after them is what is left after the array
    pub array-end : (c ≡ 93 → ⊥) → (r : ℕ) → ((us : Elems) (t : Bytes) → loop (item (value d)) (drop j s) ≡ got us t → t ≡ drop r s) → EndsAt (suc d) s at r
    array-end n r g w u x = let y = under-inv jarr (loop (item (value d)) (drop j s)) (sym (opened ∙ ap (under jarr) (some_in n)) ∙ x) in g y.0 u y.1

-- ---- a value that is no array

decoded-kind : (j v : Json) → decoded j ≡ some v → kind_of v ≡ kind_of j
unfolding decoded
decoded-kind jnull v e = ap kind_of (sym (some_same e))
decoded-kind jtrue v e = ap kind_of (sym (some_same e))
decoded-kind jfalse v e = ap kind_of (sym (some_same e))
decoded-kind (jnum x) v e = ap kind_of (sym (some_same e))
decoded-kind (jstr x) v e = ap kind_of (sym (map-inv jstr (decode x) e).2)
decoded-kind (jarr es) v e = ap kind_of (sym (map-inv jarr (decoded_elems es) e).2)
decoded-kind (jobj ms) v e = ap kind_of (sym (map-inv jobj (decoded_members ms) e).2)

abbrev is_array : Kind → ℕ
is_array Null = 0
is_array True = 0
is_array False = 0
is_array Number = 0
is_array String = 0
is_array Array = 1
is_array Object = 0

differ : (x : Kind) → is_array x ≡ 0 → x ≡ Array → ⊥
differ x c z = let y : ◌≡◌ {A = ℕ} 0 1 = sym c ∙ ap is_array z in omega arith

pub not-array : (d : ℕ) (s : Bytes) (at i b : ℕ) (h : Passes is_space s at i) (e : b ≡ byte_at s i) → (b ≡ 91 → ⊥) → (v : Json) → json_at (suc d) s at ≡ some v → kind_of v ≡ Array → ⊥
not-array d s at i b h e n v w q =
    let u = at-inv (suc d) s at v w in
    let k : kind_of u.0 ≡ Array = sym (decoded-kind u.0 v u.3) ∙ q in
    by_bool (eqb b 123) (λ y. absurd (differ Object refl (is-object s at i b h e n (eqb-true b 123 y) d u.0 u.1 u.2 ∙ k))) λ y₀.
    let n₀ = eqb-false b 123 y₀ in
    by_bool (eqb b 34) (λ y. absurd (differ String refl (is-string s at i b h e n n₀ (eqb-true b 34 y) d u.0 u.1 u.2 ∙ k))) λ y₁.
    let n₁ = eqb-false b 34 y₁ in
    by_bool (eqb b 116) (λ y. absurd (differ True refl (is_true s at i b h e n n₀ n₁ (eqb-true b 116 y) d u.0 u.1 u.2 ∙ k))) λ y₂.
    let n₂ = eqb-false b 116 y₂ in
    by_bool (eqb b 102) (λ y. absurd (differ False refl (is_false s at i b h e n n₀ n₁ n₂ (eqb-true b 102 y) d u.0 u.1 u.2 ∙ k))) λ y₃.
    let n₃ = eqb-false b 102 y₃ in
    by_bool (eqb b 110) (λ y. absurd (differ Null refl (is-null s at i b h e n n₀ n₁ n₂ n₃ (eqb-true b 110 y) d u.0 u.1 u.2 ∙ k)))
    (λ y. absurd (differ Number refl (is_number s at i b h e n n₀ n₁ n₂ n₃ (eqb-false b 110 y) d u.0 u.1 u.2 ∙ k)))
