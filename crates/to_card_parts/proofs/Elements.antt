-- Whether a value is an array, and a pass over its elements that takes each of them as something: `each f` of what is read.
use mathlib.Core.Path.{◌≡◌, refl, sym, ap, subst, ◌∙◌}
use mathlib.Core.Logic.{◌⊎◌, ⊎_elim}
use mathlib.Core.List.{List, [], ◌∷◌, ◌++◌, append-nil, append_assoc}
use mathlib.Core.Option.{Option, none, some}
use Prim.Native.Nat.{ℕ, zero, suc, ◌+◌, ◌-◌}
use native.Mathlib.Omega.{arith}
use lib.Dec.{eqb}
use lib.ListN.{drop}
use borrow.Author.Tests.{eq-eqb, ne_eqb, eqb-true, eqb-false}
use Rattle.text.specs.Places.{Read}
use Rattle.std.proofs.Common.{Continue, Break}
use Rattle.text.specs.Choice.{both}
use Rattle.text.specs.Bytes.{Bytes, is, each}
use Rattle.text.specs.Reader.{Got, got, under, on, Step, more, last, after, loop}
use Rattle.text.specs.Places.{byte_at, Passes, GivesT}
use Rattle.text.proofs.Cases.{by_bool}
use Rattle.text.proofs.Places.{on-yes, on-no}
use Rattle.text.proofs.Choices.{some_same, map-inv, both-inv}
use Rattle.text.proofs.Fine.{Takes, got-what, bind_inv, under-inv, loop-more, loop-split}
use Rattle.json_text.specs.Grammar.{is_space}
use Rattle.json_text.specs.Tree.{Json, jnull, jtrue, jfalse, jnum, jstr, jarr, jobj, Elems, enil, econs, elems_of, as_array}
use Rattle.json_text.specs.Syntax.{sep, item, elements, value}
use Rattle.json_text.specs.Strings.{decode, decoded, decoded_elems, decoded_members}
use Rattle.json_text.proofs.Fine.{value-fine, item-fine}
use Rattle.json_marks.proofs.Laws.{skip-to}
use Rattle.json_marks.proofs.Separators.{sep-adds, sep-go, sep-stop}
use Rattle.json_scan.proofs.First.{as-array}
use Rattle.json_access.specs.declared.Kind.{Kind}
use Rattle.json_access.specs.declared.Kind.TheVariants.{Null, True, False, Number, String, Array, Object}
use Rattle.json_access.specs.declared.Part.{Part}
use Rattle.json_access.specs.Access.{TellsKind, EndsAt, kind_of}
use Rattle.json_access.proofs.First.{is-object, is-string, is_true, is_false, is-null, is_number}
use Rattle.json_index.specs.Index.{meant, json_at}
use Rattle.json_index.proofs.Objects.{at-inv}

-- ---- whether a value is an array

abbrev code_of : Kind → ℕ
code_of Null = 0
code_of True = 1
code_of False = 2
code_of Number = 3
code_of String = 4
code_of Array = 5
code_of Object = 6

decoded-kind : (u v : Json) → decoded u ≡ some v → kind_of u ≡ kind_of v
unfolding decoded
decoded-kind jnull v e = ap kind_of (some_same e)
decoded-kind jtrue v e = ap kind_of (some_same e)
decoded-kind jfalse v e = ap kind_of (some_same e)
decoded-kind (jnum x) v e = ap kind_of (some_same e)
decoded-kind (jstr x) v e = ap kind_of (map-inv jstr (decode x) e).2
decoded-kind (jarr x) v e = ap kind_of (map-inv jarr (decoded_elems x) e).2
decoded-kind (jobj x) v e = ap kind_of (map-inv jobj (decoded_members x) e).2

pub kind-told : (d : ℕ) (s : Bytes) (at : ℕ) (k : Kind) → TellsKind s at k → (v : Json) → json_at (suc d) s at ≡ some v → k ≡ kind_of v
kind-told d s at k t v e = let u = at-inv (suc d) s at v e in t d u.0 u.1 u.2 ∙ decoded-kind u.0 v u.3

other-kind : (v : Json) → (code_of (kind_of v) ≡ 5 → ⊥) → as_array v ≡ none
other-kind jnull n = refl
other-kind jtrue n = refl
other-kind jfalse n = refl
other-kind (jnum x) n = refl
other-kind (jstr x) n = refl
other-kind (jarr x) n = absurd (n refl)
other-kind (jobj x) n = refl

decoded-array : (us : Elems) (j v : Json) → jarr us ≡ j → decoded j ≡ some v → (es : Elems) × (decoded_elems us ≡ some es) × (jarr es ≡ v)
unfolding decoded
decoded-array us j v e f = map-inv jarr (decoded_elems us) (ap decoded e ∙ f)

elems-nil : elems_of enil ≡ []
unfolding elems_of
elems-nil = refl

elems-cons : (j : Json) (es : Elems) → elems_of (econs j es) ≡ j ∷ elems_of es
unfolding elems_of
elems-cons j es = refl

nil-decoded : (es : Elems) → decoded_elems enil ≡ some es → enil ≡ es
unfolding decoded_elems
nil-decoded es e = some_same e

module _ (d : ℕ) (s : Bytes) (at i b : ℕ) (h : Passes is_space s at i) (e : b ≡ byte_at s i) where
  by-kind : (k : Kind) (n : ℕ) → code_of k ≡ n → (n ≡ 5 → ⊥) → TellsKind s at k → (v : Json) → json_at (suc d) s at ≡ some v → as_array v ≡ none
  by-kind k n c m t v w = other-kind v (λ z. m (sym c ∙ ap code_of (kind-told d s at k t v w) ∙ z))

  pub not-array : (b ≡ 91 → ⊥) → (v : Json) → json_at (suc d) s at ≡ some v → as_array v ≡ none
  not-array m v w =
      by_bool (eqb b 123) (λ p. by-kind _ 6 refl (λ z. omega arith) (is-object s at i b h e m (eqb-true b 123 p)) v w) λ p₀. let o = eqb-false b 123 p₀ in
      by_bool (eqb b 34) (λ p. by-kind _ 4 refl (λ z. omega arith) (is-string s at i b h e m o (eqb-true b 34 p)) v w) λ p₁. let n₁ = eqb-false b 34 p₁ in
      by_bool (eqb b 116) (λ p. by-kind _ 1 refl (λ z. omega arith) (is_true s at i b h e m o n₁ (eqb-true b 116 p)) v w) λ p₂. let n₂ = eqb-false b 116 p₂ in
      by_bool (eqb b 102) (λ p. by-kind _ 2 refl (λ z. omega arith) (is_false s at i b h e m o n₁ n₂ (eqb-true b 102 p)) v w) λ p₃. let n₃ = eqb-false b 102 p₃ in
      by_bool (eqb b 110) (λ p. by-kind _ 0 refl (λ z. omega arith) (is-null s at i b h e m o n₁ n₂ n₃ (eqb-true b 110 p)) v w)
      (λ p. by-kind _ 3 refl (λ z. omega arith) (is_number s at i b h e m o n₁ n₂ n₃ (eqb-false b 110 p)) v w)

  module _ (q : b ≡ 91) (j c : ℕ) (k : Passes is_space s (i + 1) j) (f : c ≡ byte_at s j) where
    opened : value (suc d) (drop at s) ≡ under jarr (elements (value d) (drop (i + 1) s))
    opened =
        let z : (suc d ≡ 0 → ⊥) = λ z. omega arith in
        let m : suc d - 1 ≡ d = omega arith in
        as-array s i b e at h (suc d) z q ∙ ap (λ (x : ℕ). under jarr (elements (value x) (drop (i + 1) s))) m

    none_in : c ≡ 93 → elements (value d) (drop (i + 1) s) ≡ got enil (drop (j + 1) s)
    unfolding elements
    none_in p = ap (on (is 93) _ _) (skip-to k) ∙ on-yes (is 93) s j c f _ _ (eq-eqb _ _ p)

    some_in : (c ≡ 93 → ⊥) → elements (value d) (drop (i + 1) s) ≡ loop (item (value d)) (drop j s)
    unfolding elements
    some_in n = ap (on (is 93) _ _) (skip-to k) ∙ on-no (is 93) s j c f _ _ (ne_eqb _ _ n)

    pub empty-array : c ≡ 93 → (v : Json) → json_at (suc d) s at ≡ some v → as_array v ≡ some []
    empty-array p v w =
        let u = at-inv (suc d) s at v w in
        let x : got (jarr enil) (drop (j + 1) s) ≡ got u.0 u.1 = sym (opened ∙ ap (under jarr) (none_in p)) ∙ u.2 in
        let m = decoded-array enil u.0 v (got-what x) u.3 in
        ap as_array (sym m.2) ∙ ap (λ (x : Elems). some (elems_of x)) (sym (nil-decoded m.0 m.1)) ∙ ap some elems-nil

    -- the elements of an array that is not empty, from the place of the first on
    pub array-elements : (c ≡ 93 → ⊥) → (v : Json) → json_at (suc d) s at ≡ some v
        → (us : Elems) × (es : Elems) × (t : Bytes) × (loop (item (value d)) (drop j s) ≡ got us t) × (decoded_elems us ≡ some es) × (as_array v ≡ some (elems_of es))
    array-elements n v w =
        let u = at-inv (suc d) s at v w in
        let x = under-inv jarr (loop (item (value d)) (drop j s)) (sym (opened ∙ ap (under jarr) (some_in n)) ∙ u.2) in
        let m = decoded-array x.0 u.0 v x.2 u.3 in
        (x.0, m.0, u.1, x.1, m.1, ap as_array (sym m.2))

-- ---- the element that is next

item-takes : (d : ℕ) → Takes (item (value d))
item-takes d s a w e = (item-fine (value d) (value-fine d)).less s a w e

elems-tail : (j : Json) (f : Bytes → Got Elems) (w : Step Elems) (v : Bytes) (rest : Elems) (t : Bytes)
    → (w ≡ last (econs j enil)) ⊎ (w ≡ more (econs j)) → after w v f ≡ got rest t → (us : Elems) × (rest ≡ econs j us)
elems-tail j f w v rest t o e =
    ⊎_elim (λ q. (enil, sym (got-what (rw q at e))))
    (λ q. let i = under-inv (econs j) (f v) (rw q at e) in (i.0, sym i.2)) o

record Here (d : ℕ) (s : Bytes) (i : ℕ) (rest : Elems) : Type 0 where
  val : Json
  rest-val : Bytes
  others : Elems
  is-value : value d (drop i s) ≡ got val rest-val
  turn : item (value d) (drop i s) ≡ sep 93 (econs val enil) (econs val) rest-val
  is : rest ≡ econs val others

turn-of : (d : ℕ) (s : Bytes) (j : Json) (u : Bytes) → value d s ≡ got j u → item (value d) s ≡ sep 93 (econs j enil) (econs j) u
unfolding item
turn-of d s j u e = rw e

item-here : (d : ℕ) (s : Bytes) (i : ℕ) (rest : Elems) (t : Bytes) → loop (item (value d)) (drop i s) ≡ got rest t → Here d s i rest
unfolding item
item-here d s i rest t e =
    let l = loop-split (item (value d)) (item-takes d) (drop i s) rest t e in
    let b = bind_inv (value d (drop i s)) (λ j u. sep 93 (econs j enil) (econs j) u) l.2 in
    let r = elems-tail b.0 (loop (item (value d))) l.0 l.1 rest t (sep-adds (econs b.0 enil) (econs b.0) 93 b.1 l.0 l.1 b.3) l.3 in
    record { val = b.0; rest-val = b.1; others = r.0; is-value = b.2; turn = turn-of d (drop i s) b.0 b.1 b.2; is = r.1 }

module _ (d : ℕ) (s : Bytes) (i : ℕ) (rest : Elems) (t : Bytes) (e : loop (item (value d)) (drop i s) ≡ got rest t) (z : Here d s i rest) (x : ℕ) (ends : z.rest-val ≡ drop x s) where
  others-on : (j : ℕ) → GivesT s x (sep 93 zero suc (drop x s)) (Continue j) → (us : Elems) × (loop (item (value d)) (drop j s) ≡ got us t) × (econs z.val us ≡ rest)
  others-on j w =
      let f : item (value d) (drop i s) ≡ got (more (econs z.val)) (drop j s) = z.turn ∙ ap (sep 93 _ _) ends ∙ sep-go (econs z.val enil) (econs z.val) 93 w in
      under-inv (econs z.val) (loop (item (value d)) (drop j s)) (sym (loop-more (item (value d)) (item-takes d) (drop i s) (drop j s) (econs z.val) f) ∙ e)

  others-none : (r : Read) → GivesT s x (sep 93 zero suc (drop x s)) (Break r) → econs z.val enil ≡ rest
  others-none r w =
      let l = loop-split (item (value d)) (item-takes d) (drop i s) rest t e in
      let n = sep-stop (econs z.val enil) (econs z.val) 93 w l.0 l.1 (sym (ap (sep 93 _ _) ends) ∙ sym z.turn ∙ l.2) in
      got-what (rw n at l.3)

-- ---- the elements that are done, before others

abbrev pub prepend : {A : Type 0} → List A → Option (List A) → Option (List A)
prepend es none = none
prepend es (some fs) = some (es ++ fs)

prepend-nil : {A : Type 0} (o : Option (List A)) → o ≡ prepend [] o
prepend-nil none = refl
prepend-nil (some fs) = refl

prepend-one : {A : Type 0} (es : List A) (e : A) (o : Option (List A)) → prepend es (both ◌∷◌ (some e) o) ≡ prepend (es ++ (e ∷ [])) o
prepend-one es e none = refl
prepend-one es e (some fs) = ap some (sym (append_assoc es (e ∷ []) fs))

pub record Far {A : Type 0} (f : Json → Option A) (d : ℕ) (s : Bytes) (js : List Json) (t : Bytes) (i : ℕ) (done : List A) : Type 0 where
  pub units : Elems
  pub rest : Elems
  pub is-units : loop (item (value d)) (drop i s) ≡ got units t
  pub is-rest : decoded_elems units ≡ some rest
  pub is-each : each f js ≡ prepend done (each f (elems_of rest))

pub far-first : {A : Type 0} (f : Json → Option A) (d : ℕ) (s : Bytes) (us es : Elems) (t : Bytes) (i : ℕ) → loop (item (value d)) (drop i s) ≡ got us t → decoded_elems us ≡ some es → Far f d s (elems_of es) t i []
far-first f d s us es t i e h = record { units = us; rest = es; is-units = e; is-rest = h; is-each = prepend-nil _ }

-- the element at a place: what it is taken as, and what is still to come
pub record Now {A : Type 0} (f : Json → Option A) (d : ℕ) (s : Bytes) (js : List Json) (t : Bytes) (i : ℕ) (done : List A) (r : Part) : Type 0 where
  pub val : Json
  pub is-val : json_at d s r.start ≡ some val
  pub fails : f val ≡ none → each f js ≡ none
  pub goes : (y : A) → f val ≡ some y → (j : ℕ) → GivesT s r.end (sep 93 zero suc (drop r.end s)) (Continue j) → Far f d s js t j (done ++ (y ∷ []))
  pub ends : (y : A) → f val ≡ some y → (v : Read) → GivesT s r.end (sep 93 zero suc (drop r.end s)) (Break v) → each f js ≡ some (done ++ (y ∷ []))

each-one : {A : Type 0} (f : Json → Option A) (x : Json) (xs : List Json) → each f (x ∷ xs) ≡ both ◌∷◌ (f x) (each f xs)
unfolding each
each-one f x xs = refl

each_none : {A : Type 0} (f : Json → Option A) → each f [] ≡ some []
unfolding each
each_none f = refl

same-others : {v : Json} {us ws ts : Elems} → econs v us ≡ ts → ts ≡ econs v ws → us ≡ ws
same-others e f = cc

decoded-one : (j : Json) (us es : Elems) → decoded_elems (econs j us) ≡ some es → (v : Json) × (os : Elems) × (decoded j ≡ some v) × (decoded_elems us ≡ some os) × (econs v os ≡ es)
unfolding decoded_elems
decoded-one j us es e = both-inv econs (decoded j) (decoded_elems us) e

value-at : (d : ℕ) (s : Bytes) (i : ℕ) (j v : Json) (u : Bytes) → value d (drop i s) ≡ got j u → decoded j ≡ some v → json_at d s i ≡ some v
unfolding json_at
value-at d s i j v u e q = ap meant e ∙ q

module _ {A : Type 0} {f : Json → Option A} {d : ℕ} {s : Bytes} {js : List Json} {t : Bytes} {i : ℕ} {done : List A} where
  now-by : Far f d s js t i done → (r : Part) → ((j : Json) (u : Bytes) (v : Json) → value d (drop i s) ≡ got j u → decoded j ≡ some v → (json_at d s r.start ≡ some v) × (u ≡ drop r.end s))
      → Now f d s js t i done r
  now-by far r told =
      let z = item-here d s i far.units t far.is-units in
      let x = decoded-one z.val z.others far.rest (ap decoded_elems (sym z.is) ∙ far.is-rest) in
      let w = told z.val z.rest-val x.0 z.is-value x.2 in
      let l : elems_of far.rest ≡ x.0 ∷ elems_of x.1 = ap elems_of (sym x.4) ∙ elems-cons x.0 x.1 in
      let g : each f js ≡ prepend done (both ◌∷◌ (f x.0) (each f (elems_of x.1))) = far.is-each ∙ ap (prepend done) (ap (each f) l ∙ each-one f x.0 (elems_of x.1)) in
      let h : (y : A) → f x.0 ≡ some y → each f js ≡ prepend (done ++ (y ∷ [])) (each f (elems_of x.1)) =
      λ y q. g ∙ ap (λ (o : Option A). prepend done (both ◌∷◌ o (each f (elems_of x.1)))) q ∙ prepend-one done y (each f (elems_of x.1)) in
      record {
        val = x.0;
        is-val = w.0;
        fails = λ q. g ∙ ap (λ (o : Option A). prepend done (both ◌∷◌ o (each f (elems_of x.1)))) q;
        goes = λ y q j v.
            let o = others-on d s i far.units t far.is-units z r.end w.1 j v in
            let m : o.0 ≡ z.others = same-others o.2 z.is in
            record { units = z.others; rest = x.1; is-units = subst (λ (u : Elems). loop (item (value d)) (drop j s) ≡ got u t) m o.1; is-rest = x.3; is-each = h y q };
        ends = λ y q v p.
            let o = others-none d s i far.units t far.is-units z r.end w.1 v p in
            let m : enil ≡ z.others = same-others o z.is in
            let n : enil ≡ x.1 = nil-decoded x.1 (ap decoded_elems m ∙ x.3) in
            h y q ∙ ap (λ (u : Elems). prepend (done ++ (y ∷ [])) (each f (elems_of u))) (sym n) ∙ ap (λ (u : List Json). prepend (done ++ (y ∷ [])) (each f u)) elems-nil
            ∙ ap (prepend (done ++ (y ∷ []))) (each_none f) ∙ ap some (append-nil (done ++ (y ∷ [])));
      }

  -- by its end alone
  pub now-to : Far f d s js t i done → (e : ℕ) → EndsAt d s i e → Now f d s js t i done (record { start = i; end = e })
  now-to far e ends = now-by far (record { start = i; end = e }) (λ j u v h q. (value-at d s i j v u h q, ends j u h))

  -- what it is, wherever it ends
  pub first_of : Far f d s js t i done → (v : Json) × (json_at d s i ≡ some v) × (f v ≡ none → each f js ≡ none)
  first_of far =
      let z = item-here d s i far.units t far.is-units in
      let x = decoded-one z.val z.others far.rest (ap decoded_elems (sym z.is) ∙ far.is-rest) in
      let l : elems_of far.rest ≡ x.0 ∷ elems_of x.1 = ap elems_of (sym x.4) ∙ elems-cons x.0 x.1 in
      let g : each f js ≡ prepend done (both ◌∷◌ (f x.0) (each f (elems_of x.1))) = far.is-each ∙ ap (prepend done) (ap (each f) l ∙ each-one f x.0 (elems_of x.1)) in
      (x.0, value-at d s i z.val x.0 z.rest-val z.is-value x.2, λ q. g ∙ ap (λ (o : Option A). prepend done (both ◌∷◌ o (each f (elems_of x.1)))) q)
