-- The steps of the walk, in decoded values.
use mathlib.Core.Path.{◌≡◌, refl, sym, ap, subst, ◌∙◌}
use mathlib.Core.Bool.{Bool, true, false}
use mathlib.Core.List.{[], ◌∷◌, tail}
use mathlib.Core.Option.{some}
use Prim.Native.Nat.{ℕ, zero, suc, ◌+◌, ◌≤◌, ◌<◌}
use native.Mathlib.Omega.{arith}
use lib.Dec.{eqb}
use lib.ListN.{length, drop, drop_of_length-le}
use Rattle.text.specs.Places.{Read}
use Rattle.std.specs.Prelude.{Ok, Err}
use Rattle.std.proofs.Common.{Continue, Break}
use Rattle.text.specs.Choice.{pick, both}
use Rattle.text.specs.Bytes.{Bytes}
use Rattle.text.specs.Reader.{Got, got, bad, first, on, more, last, past, loop}
use Rattle.text.specs.Places.{byte_at, AgreeT, Passes}
use Rattle.text.proofs.Choices.{some_same, both-inv}
use Rattle.text.proofs.Readers.{not-bad, got-what, got-rest, bind_inv, under-inv}
use Rattle.json_text.specs.Grammar.{is_space}
use Rattle.json_text.specs.Tree.{Json, jarr, jobj, Elems, enil, econs, Members, mnil, mcons, member, members_of, elems_of, as_array, as_object}
use Rattle.json_text.specs.Syntax.{skip, name, sep, item, pair, value}
use Rattle.json_text.specs.Strings.{decode, decoded, decoded_elems, decoded_members}
use Rattle.json_text.proofs.Fine.{value-fine}
use Rattle.json_marks.proofs.Laws.{skip-to}
use Rattle.json_scan.specs.After.{later, elements_after, members_after}
use Rattle.json_scan.proofs.After.{elements-by, members-by}
use Rattle.json_access.specs.Access.{place_of, TellsHead}
use Rattle.json_access.proofs.Laws.{value-skip}
use Rattle.json_walk.specs.declared.Member.{Member}
use Rattle.json_walk.specs.declared.Member.TheVariants.{At as Member-At, End as Member-End, NoObject}
use Rattle.json_walk.specs.declared.Element.{Element}
use Rattle.json_walk.specs.declared.Element.TheVariants.{At as Element-At, End as Element-End, NoArray}
use Rattle.json_walk.specs.Walk.{meant, json_at, FirstMember, FirstElement, TellsMembers, TellsElements, FirstOf, NextOf, FirstElementOf, NextElementOf, Opens, NoneOpens, FirstReads, NextReads, GoesOn, Closes}
use Rattle.json_walk.proofs.Values.{at-inv, decoded-object, decoded-array, not-object, not-array, empty-object, some-object, empty-array, some-array}

-- ---- what stands after a value, by the separator that the code found

module _ {B : Type 0} (b : B) (k : Bytes → Got B) (s : Bytes) where
  go-by : (p q : Bool) (t u : Bytes) (j : ℕ) → AgreeT s (pick p (got (last zero) t) (pick q (got (more suc) t) (bad u))) (Continue j)
      → pick p (got b t) (pick q (k t) (bad u)) ≡ k (drop j s)
  go-by true q t u j h = absurd h
  go-by false true t u j h = ap k h
  go-by false false t u j h = absurd h

  pub later-goes : (at close j : ℕ) → GoesOn s at close j → later close b k (drop at s) ≡ k (drop j s)
  unfolding sep on later
  later-goes at close j h = go-by (eqb (first (skip (drop at s))) close) (eqb (first (skip (drop at s))) 44) (tail (skip (drop at s))) (skip (drop at s)) j h.is

  stop-by : (p q : Bool) (t u : Bytes) (r : Read) → AgreeT s (pick p (got (last zero) t) (pick q (got (more suc) t) (bad u))) (Break r)
      → (x : B) (y : Bytes) → pick p (got b t) (pick q (k t) (bad u)) ≡ got x y → (b ≡ x) × (y ≡ drop (place_of r) s)
  stop-by true q t u (Ok e) h x y g = (got-what g, sym (got-rest g) ∙ h)
  stop-by true q t u (Err e) h x y g = absurd h
  stop-by false true t u r h x y g = absurd h
  stop-by false false t u r h x y g = absurd (not-bad g)

  pub later-closes : (at close z : ℕ) → at ≤ length s → Closes s at close z → (x : B) (t : Bytes) → later close b k (drop at s) ≡ got x t → (b ≡ x) × (t ≡ drop z s)
  unfolding sep on later
  later-closes at close z l c x t g =
      let w = c l in
      let i = stop-by (eqb (first (skip (drop at s))) close) (eqb (first (skip (drop at s))) 44) (tail (skip (drop at s))) (skip (drop at s)) w.0 w.1.is x t g in
      (i.0, i.1 ∙ ap (λ (i : ℕ). drop i s) (sym w.2))

  nothing : (close : ℕ) → eqb 256 close ≡ false → later close b k [] ≡ bad []
  unfolding later skip past on
  nothing close n = rw n

  pub later-past : (at close : ℕ) → eqb 256 close ≡ false → length s < at → (x : B) (t : Bytes) → later close b k (drop at s) ≡ got x t → ⊥
  later-past at close n l x t g = not-bad (sym (ap (later close b k) (drop_of_length-le s {i = at} (omega arith)) ∙ nothing close n) ∙ g)

-- ---- a value where it begins

json-read : (d : ℕ) (s : Bytes) (a : ℕ) (j : Json) (u : Bytes) → value d (drop a s) ≡ got j u → (v : Json) → decoded j ≡ some v → json_at d s a ≡ some v
unfolding json_at
json-read d s a j u e v f = ap meant e ∙ f

module _ (d : ℕ) (s t : Bytes) (a : ℕ) (h : skip t ≡ drop a s) (j : Json) (u : Bytes) (e : value d t ≡ got j u) where
  pub value-from : value d (drop a s) ≡ got j u
  value-from = ap (value d) (sym h) ∙ value-skip d t ∙ e

  pub json-from : (v : Json) → decoded j ≡ some v → json_at d s a ≡ some v
  json-from v f = json-read d s a j u value-from v f

-- ---- members, decoded

pub record Next (k : Bytes) (j : Json) (us ms : Members) : Type 0 where
  pub key : Bytes
  pub val : Json
  pub others : Members
  pub is-key : decode k ≡ some key
  pub is-val : decoded j ≡ some val
  pub is-others : decoded_members us ≡ some others
  pub is : mcons key val others ≡ ms

pub next_of : (k : Bytes) (j : Json) (us ms : Members) → decoded_members (mcons k j us) ≡ some ms → Next k j us ms
unfolding decoded_members
next_of k j us ms e =
    let i = both-inv (λ (f : Members → Members) rest. f rest) (both (λ n v rest. mcons n v rest) (decode k) (decoded j)) (decoded_members us) e in
    let l = both-inv (λ n v rest. mcons n v rest) (decode k) (decoded j) i.2 in
    record { key = l.0; val = l.1; others = i.1; is-key = l.2; is-val = l.3; is-others = i.3; is = ap (λ (f : Members → Members). f i.1) l.4 ∙ i.4 }

pub members-cons : (n : Bytes) (v : Json) (ms : Members) → members_of (mcons n v ms) ≡ member n v ∷ members_of ms
unfolding members_of
members-cons n v ms = refl

pub members-nil : members_of mnil ≡ []
unfolding members_of
members-nil = refl

pub nil-decoded : (ms : Members) → decoded_members mnil ≡ some ms → mnil ≡ ms
unfolding decoded_members
nil-decoded ms e = some_same e

no-members : (us ms : Members) → mnil ≡ us → decoded_members us ≡ some ms → members_of ms ≡ []
no-members us ms e f = ap members_of (sym (nil-decoded ms (ap decoded_members e ∙ f))) ∙ members-nil

-- the first of the members that are read from a name's place on
pub first-in : (d : ℕ) (s : Bytes) (j : ℕ) (us ms : Members) (t : Bytes) (q a : ℕ) → loop (pair (value d)) (drop j s) ≡ got us t → decoded_members us ≡ some ms
    → TellsHead s j (record { name = q; start = a }) → FirstMember d s (members_of ms) t q a
first-in d s j us ms t q a e f told =
    let n = bind_inv (name (drop j s)) _ (sym (members-by (value d) (value-fine d) (drop j s)) ∙ e) in
    let w = bind_inv (value d n.1) _ n.3 in
    let o = under-inv (mcons n.0 w.0) (members_after (value d) w.1) w.3 in
    let x = next_of n.0 w.0 o.0 ms (ap decoded_members o.2 ∙ f) in
    let h = told n.0 n.1 n.2 in
    record {
      key = x.key;
      val = x.val;
      others = members_of x.others;
      is = ap members_of (sym x.is) ∙ members-cons x.key x.val x.others;
      is-key = h.0 ∙ x.is-key;
      is-val = json-from d s n.1 a h.1 w.0 w.1 w.2 x.val x.is-val;
      left = λ z g.
          let p = g w.0 w.1 (value-from d s n.1 a h.1 w.0 w.1 w.2) in
          record { units = o.0; tree = x.others; reads = ap (members_after (value d)) (sym p) ∙ o.1; stands-for = x.is-others; listed = refl };
    }

-- THE STEPS: what is read is what stands there
pub first-told : (s : Bytes) (at : ℕ) (r : Member) → FirstReads s at r → FirstOf s at r
first-told s at (Member-At q a) (j, o, n, told) d v h =
    let u = at-inv (suc d) s at v h in
    let x = under-inv jobj (loop (pair (value d)) (drop j s)) (sym (some-object d s at j o n) ∙ u.2) in
    let m = decoded-object x.0 u.0 v x.2 u.3 in (
      u.1,
      (λ i w e. got-rest (sym e ∙ u.2)),
      subst (λ (y : Json). TellsMembers d s (as_object y) u.1 (Member-At q a)) m.2 (first-in d s j x.0 m.0 u.1 q a x.1 m.1 told),
    )
first-told s at (Member-End z) (j, o, e, q) d v h =
    let u = at-inv (suc d) s at v h in
    let x = sym (empty-object d s at j o e) ∙ u.2 in
    let m = decoded-object mnil u.0 v (got-what x) u.3 in (
      u.1,
      (λ i w e. got-rest (sym e ∙ u.2)),
      subst (λ (y : Json). TellsMembers d s (as_object y) u.1 (Member-End z)) m.2 (no-members mnil m.0 refl m.1, sym (got-rest x) ∙ ap (λ (i : ℕ). drop i s) (sym q)),
    )
first-told s at NoObject n d v h =
    let u = at-inv (suc d) s at v h in
    (u.1, (λ i w e. got-rest (sym e ∙ u.2)), rw (not-object d s at v h n) refl)

pub next-told : (s : Bytes) (at : ℕ) (r : Member) → at ≤ length s → NextReads s at r → NextOf s at r
next-told s at (Member-At q a) l (j, g, told) d ms t h =
    let e = sym (later-goes mnil (loop (pair (value d))) s at 125 j g) ∙ h.reads in
    subst (λ x. FirstMember d s x t q a) h.listed (first-in d s j h.units h.tree t q a e h.stands-for told)
next-told s at (Member-End z) l c d ms t h =
    let e = later-closes mnil (loop (pair (value d))) s at 125 z l c h.units t h.reads in
    (sym h.listed ∙ no-members h.units h.tree e.0 h.stands-for, e.1)
next-told s at NoObject l n d ms t h = n

pub next_past : (s : Bytes) (at : ℕ) (r : Member) → length s < at → NextOf s at r
next_past s at r l d ms t h = absurd (later-past mnil (loop (pair (value d))) s at 125 refl l h.units t h.reads)

-- ---- elements

elems-cons : (v : Json) (es : Elems) → elems_of (econs v es) ≡ v ∷ elems_of es
unfolding elems_of
elems-cons v es = refl

no-elements : (us es : Elems) → enil ≡ us → decoded_elems us ≡ some es → elems_of es ≡ []
unfolding decoded_elems elems_of
no-elements us es e f = ap elems_of (sym (some_same (ap decoded_elems e ∙ f)))

element-of : (j : Json) (us es : Elems) → decoded_elems (econs j us) ≡ some es → (v : Json) × (others : Elems) × (decoded j ≡ some v) × (decoded_elems us ≡ some others) × (econs v others ≡ es)
unfolding decoded_elems
element-of j us es e = both-inv econs (decoded j) (decoded_elems us) e

-- the first of the elements that are read from a place on
first-element-in : (d : ℕ) (s : Bytes) (j : ℕ) (us es : Elems) (t : Bytes) (a : ℕ) → loop (item (value d)) (drop j s) ≡ got us t → decoded_elems us ≡ some es
    → value d (drop a s) ≡ value d (drop j s) → FirstElement d s (elems_of es) t a
first-element-in d s j us es t a e f p =
    let w = bind_inv (value d (drop j s)) _ (sym (elements-by (value d) (value-fine d) (drop j s)) ∙ e) in
    let o = under-inv (econs w.0) (elements_after (value d) w.1) w.3 in
    let x = element-of w.0 o.0 es (ap decoded_elems o.2 ∙ f) in
    record {
      val = x.0;
      others = elems_of x.1;
      is = ap elems_of (sym x.4) ∙ elems-cons x.0 x.1;
      is-val = json-read d s a w.0 w.1 (p ∙ w.2) x.0 x.2;
      left = λ z g.
          let q = g w.0 w.1 (p ∙ w.2) in
          record { units = o.0; tree = x.1; reads = ap (elements_after (value d)) (sym q) ∙ o.1; stands-for = x.3; listed = refl };
    }

module _ (s : Bytes) (at : ℕ) where
  pub element-first : (j : ℕ) → Opens s at 91 j → (byte_at s j ≡ 93 → ⊥) → FirstElementOf s at (Element-At j)
  element-first j o n d v h =
      let u = at-inv (suc d) s at v h in
      let x = under-inv jarr (loop (item (value d)) (drop j s)) (sym (some-array d s at j o n) ∙ u.2) in
      let m = decoded-array x.0 u.0 v x.2 u.3 in (
        u.1,
        (λ i w e. got-rest (sym e ∙ u.2)),
        subst (λ (y : Json). TellsElements d s (as_array y) u.1 (Element-At j)) m.2 (first-element-in d s j x.0 m.0 u.1 j x.1 m.1 refl),
      )

  pub element-none : (j : ℕ) → Opens s at 91 j → byte_at s j ≡ 93 → FirstElementOf s at (Element-End (j + 1))
  element-none j o e d v h =
      let u = at-inv (suc d) s at v h in
      let x = sym (empty-array d s at j o e) ∙ u.2 in
      let m = decoded-array enil u.0 v (got-what x) u.3 in (
        u.1,
        (λ i w e. got-rest (sym e ∙ u.2)),
        subst (λ (y : Json). TellsElements d s (as_array y) u.1 (Element-End (j + 1))) m.2 (no-elements enil m.0 refl m.1, sym (got-rest x)),
      )

  pub no-array : NoneOpens s at 91 → FirstElementOf s at NoArray
  no-array n d v h =
      let u = at-inv (suc d) s at v h in
      (u.1, (λ i w e. got-rest (sym e ∙ u.2)), rw (not-array d s at v h n) refl)

  pub element-next : (j a : ℕ) → GoesOn s at 93 j → Passes is_space s j a → NextElementOf s at (Element-At a)
  element-next j a g p d vs t h =
      let e = sym (later-goes enil (loop (item (value d))) s at 93 j g) ∙ h.reads in
      let q : value d (drop a s) ≡ value d (drop j s) = ap (value d) (sym (skip-to p)) ∙ value-skip d (drop j s) in
      subst (λ x. FirstElement d s x t a) h.listed (first-element-in d s j h.units h.tree t a e h.stands-for q)

  pub element-past : length s < at → (r : Element) → NextElementOf s at r
  element-past l r d vs t h = absurd (later-past enil (loop (item (value d))) s at 93 refl l h.units t h.reads)

  pub element-last : (z : ℕ) → at ≤ length s → Closes s at 93 z → NextElementOf s at (Element-End z)
  element-last z l c d vs t h =
      let e = later-closes enil (loop (item (value d))) s at 93 z l c h.units t h.reads in
      (sym h.listed ∙ no-elements h.units h.tree e.0 h.stands-for, e.1)
