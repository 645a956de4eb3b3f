-- Arrays, objects and so every value of a JSON text are squeezed to their tree's compact text.
use mathlib.Core.Path.{◌≡◌, refl, sym, ap, subst, ◌∙◌}
use mathlib.Core.Bool.{true, false}
use mathlib.Core.List.{[], ◌∷◌, tail}
use mathlib.Core.Logic.{◌⊎◌, inl, inr}
use mathlib.Core.Option.{some}
use Prim.Native.Nat.{ℕ, zero, suc}
use lib.Dec.{eqb}
use Rattle.text.specs.Choice.{both}
use Rattle.text.specs.Bytes.{Bytes, is}
use Rattle.text.specs.Reader.{got, under, first, on, more, last, loop}
use Rattle.text.proofs.Choices.{some_same, map-inv, both-inv}
use Rattle.text.proofs.Readers.{got-rest, got-what, bind_inv, under-inv, on-inv}
use Rattle.json_text.specs.Tree.{Json, jarr, jobj, Elems, enil, econs, Members, mnil, mcons}
use Rattle.json_text.specs.Syntax.{skip, name, scalar, item, elements, pair, pairs, value}
use Rattle.json_text.specs.Strings.{decode, decoded, decoded_elems, decoded_members}
use Rattle.json_text.specs.Compact.{written, written_elems, elems_after, written_members, members_after}
use Rattle.json_compact.specs.Squeezed.{squeezed}
use Rattle.json_compact.proofs.Firsts.{squeezed-skip}
use Rattle.json_compact.proofs.Copied.{Copied, copied_is}
use Rattle.json_compact.proofs.Tied.{Tied, plain-marks, named, scalar-tied, loop-holds, sep-last, sep-more}

-- ---- elements and members, from the first on; after a comma the same again

record TiedElems (s : Bytes) (es : Elems) (t : Bytes) : Type 0 where
  so : (ks : Elems) → decoded_elems es ≡ some ks → (r : Bytes) → squeezed t ≡ r → (squeezed s ≡ written_elems ks r) × (elems_after ks r ≡ 44 ∷ written_elems ks r)

record TiedMembers (s : Bytes) (ms : Members) (t : Bytes) : Type 0 where
  so : (ks : Members) → decoded_members ms ≡ some ks → (r : Bytes) → squeezed t ≡ r → (squeezed s ≡ written_members ks r) × (members_after ks r ≡ 44 ∷ written_members ks r)

-- what stands after one of them
abbrev AfterElem : Bytes → Elems → Bytes → Type 0
AfterElem u es t = (ks : Elems) → decoded_elems es ≡ some ks → (r : Bytes) → squeezed t ≡ r → squeezed u ≡ elems_after ks r

abbrev AfterMember : Bytes → Members → Bytes → Type 0
AfterMember u ms t = (ks : Members) → decoded_members ms ≡ some ks → (r : Bytes) → squeezed t ≡ r → squeezed u ≡ members_after ks r

elems-end : (u t : Bytes) → Copied u (93 ∷ []) t → AfterElem u enil t
unfolding decoded_elems decoded decoded_members elems_after
elems-end u t c ks y r q = c.so r q ∙ ap (λ (x : Elems). elems_after x r) (some_same y)

elems-comma : (u v : Bytes) (es : Elems) (t : Bytes) → Copied u (44 ∷ []) v → TiedElems v es t → AfterElem u es t
elems-comma u v es t c p ks y r q = let h = p.so ks y r q in c.so (written_elems ks r) h.0 ∙ sym h.1

tied-econs : (s : Bytes) (j : Json) (u : Bytes) (es : Elems) (t : Bytes) → Tied s j u → AfterElem u es t → TiedElems s (econs j es) t
unfolding decoded_elems decoded decoded_members written_elems elems_after
tied-econs s j u es t h k = record {
  so = λ ks e r q.
      let i = both-inv econs (decoded j) (decoded_elems es) e in
      subst (λ (x : Elems). (squeezed s ≡ written_elems x r) × (elems_after x r ≡ 44 ∷ written_elems x r)) i.4 (h.so i.0 i.2 (elems_after i.1 r) (k i.1 i.3 r q), refl);
}

members-end : (u t : Bytes) → Copied u (125 ∷ []) t → AfterMember u mnil t
unfolding decoded_elems decoded decoded_members members_after
members-end u t c ks y r q = c.so r q ∙ ap (λ (x : Members). members_after x r) (some_same y)

members-comma : (u v : Bytes) (ms : Members) (t : Bytes) → Copied u (44 ∷ []) v → TiedMembers v ms t → AfterMember u ms t
members-comma u v ms t c p ks y r q = let h = p.so ks y r q in c.so (written_members ks r) h.0 ∙ sym h.1

tied-mcons : (s n w : Bytes) (j : Json) (u : Bytes) (ms : Members) (t : Bytes) → name s ≡ got n w → Tied w j u → AfterMember u ms t → TiedMembers s (mcons n j ms) t
unfolding decoded_elems decoded decoded_members written_members members_after
tied-mcons s n w j u ms t z h k = record {
  so = λ ks e r q.
      let i = both-inv (λ (f : Members → Members) rest. f rest) (both (λ n v rest. mcons n v rest) (decode n) (decoded j)) (decoded_members ms) e in
      let l = both-inv (λ n v rest. mcons n v rest) (decode n) (decoded j) i.2 in
      let m : mcons l.0 l.1 i.1 ≡ ks = ap (λ (f : Members → Members). f i.1) l.4 ∙ i.4 in
      let b = h.so l.1 l.3 (members_after i.1 r) (k i.1 i.3 r q) in
      subst (λ (x : Members). (squeezed s ≡ written_members x r) × (members_after x r ≡ 44 ∷ written_members x r)) m
      (named s n w z l.0 (written l.1 (members_after i.1 r)) l.2 b, refl);
}

-- ---- arrays and objects, over what is read inside

module _ (d : ℕ) (inside : (s : Bytes) (u : Json) (t : Bytes) → value d s ≡ got u t → Tied s u t) where
  item-last : (s : Bytes) (es : Elems) (t : Bytes) → item (value d) s ≡ got (last es) t → TiedElems s es t
  unfolding item
  item-last s es t e =
      let i = bind_inv (value d s) _ e in
      let p = sep-last 93 plain-marks.2 (econs i.0 enil) (econs i.0) i.1 es t i.3 in
      subst (λ (x : Elems). TiedElems s x t) p.0 (tied-econs s i.0 i.1 enil t (inside s i.0 i.1 i.2) (elems-end i.1 t p.1))

  item-more : (s : Bytes) (g : Elems → Elems) (u : Bytes) (es : Elems) (t : Bytes) → item (value d) s ≡ got (more g) u → TiedElems u es t → TiedElems s (g es) t
  unfolding item
  item-more s g u es t e h =
      let i = bind_inv (value d s) _ e in
      let p = sep-more 93 plain-marks.2 (econs i.0 enil) (econs i.0) i.1 g u i.3 in
      subst (λ (f : Elems → Elems). TiedElems s (f es) t) p.0 (tied-econs s i.0 i.1 es t (inside s i.0 i.1 i.2) (elems-comma i.1 u es t p.1 h))

  elements-tied : (s : Bytes) (es : Elems) (t : Bytes) → elements (value d) s ≡ got es t → (ks : Elems) → decoded_elems es ≡ some ks → (r : Bytes) → squeezed t ≡ r → squeezed s ≡ written_elems ks r
  unfolding elements decoded_elems decoded decoded_members written_elems
  elements-tied s es t e ks y r q = sym (squeezed-skip s) ∙ by (on-inv (is 93) _ _ (skip s) e)
    where
      by : ((eqb (first (skip s)) 93 ≡ true) × (got enil (tail (skip s)) ≡ got es t)) ⊎ ((eqb (first (skip s)) 93 ≡ false) × (loop (item (value d)) (skip s) ≡ got es t)) → squeezed (skip s) ≡ written_elems ks r
      by (inl p) =
          (copied_is 93 plain-marks.2 (skip s) p.0).so r (ap squeezed (got-rest p.1) ∙ q)
          ∙ ap (λ (x : Elems). written_elems x r) (some_same (ap decoded_elems (got-what p.1) ∙ y))
      by (inr p) = ((loop-holds (item (value d)) TiedElems item-last item-more (skip s) es t p.1).so ks y r q).0

  pair-last : (s : Bytes) (ms : Members) (t : Bytes) → pair (value d) s ≡ got (last ms) t → TiedMembers s ms t
  unfolding pair
  pair-last s ms t e =
      let n = bind_inv (name s) _ e in
      let i = bind_inv (value d n.1) _ n.3 in
      let p = sep-last 125 plain-marks.3 (mcons n.0 i.0 mnil) (mcons n.0 i.0) i.1 ms t i.3 in
      subst (λ (x : Members). TiedMembers s x t) p.0
      (tied-mcons s n.0 n.1 i.0 i.1 mnil t n.2 (inside n.1 i.0 i.1 i.2) (members-end i.1 t p.1))

  pair-more : (s : Bytes) (g : Members → Members) (u : Bytes) (ms : Members) (t : Bytes) → pair (value d) s ≡ got (more g) u → TiedMembers u ms t → TiedMembers s (g ms) t
  unfolding pair
  pair-more s g u ms t e h =
      let n = bind_inv (name s) _ e in
      let i = bind_inv (value d n.1) _ n.3 in
      let p = sep-more 125 plain-marks.3 (mcons n.0 i.0 mnil) (mcons n.0 i.0) i.1 g u i.3 in
      subst (λ (f : Members → Members). TiedMembers s (f ms) t) p.0
      (tied-mcons s n.0 n.1 i.0 i.1 ms t n.2 (inside n.1 i.0 i.1 i.2) (members-comma i.1 u ms t p.1 h))

  pairs-tied : (s : Bytes) (ms : Members) (t : Bytes) → pairs (value d) s ≡ got ms t → (ks : Members) → decoded_members ms ≡ some ks → (r : Bytes) → squeezed t ≡ r → squeezed s ≡ written_members ks r
  unfolding pairs decoded_elems decoded decoded_members written_members
  pairs-tied s ms t e ks y r q = sym (squeezed-skip s) ∙ by (on-inv (is 125) _ _ (skip s) e)
    where
      by : ((eqb (first (skip s)) 125 ≡ true) × (got mnil (tail (skip s)) ≡ got ms t)) ⊎ ((eqb (first (skip s)) 125 ≡ false) × (loop (pair (value d)) (skip s) ≡ got ms t)) → squeezed (skip s) ≡ written_members ks r
      by (inl p) =
          (copied_is 125 plain-marks.3 (skip s) p.0).so r (ap squeezed (got-rest p.1) ∙ q)
          ∙ ap (λ (x : Members). written_members x r) (some_same (ap decoded_members (got-what p.1) ∙ y))
      by (inr p) = ((loop-holds (pair (value d)) TiedMembers pair-last pair-more (skip s) ms t p.1).so ks y r q).0

  module _ (s : Bytes) (t : Bytes) where
    tied-array : (es : Elems) → eqb (first s) 91 ≡ true → elements (value d) (tail s) ≡ got es t → Tied s (jarr es) t
    unfolding decoded_elems decoded decoded_members written
    tied-array es h e = record {
      so = λ k y r q.
          let i = map-inv jarr (decoded_elems es) y in
          (copied_is 91 plain-marks.4 s h).so (written_elems i.0 r) (elements-tied (tail s) es t e i.0 i.1 r q) ∙ ap (λ (x : Json). written x r) i.2;
    }

    tied-object : (ms : Members) → eqb (first s) 123 ≡ true → pairs (value d) (tail s) ≡ got ms t → Tied s (jobj ms) t
    unfolding decoded_elems decoded decoded_members written
    tied-object ms h e = record {
      so = λ k y r q.
          let i = map-inv jobj (decoded_members ms) y in
          (copied_is 123 plain-marks.5 s h).so (written_members i.0 r) (pairs-tied (tail s) ms t e i.0 i.1 r q) ∙ ap (λ (x : Json). written x r) i.2;
    }

    by-object : (u : Json) → ((eqb (first s) 123 ≡ true) × (under jobj (pairs (value d) (tail s)) ≡ got u t)) ⊎ ((eqb (first s) 123 ≡ false) × (scalar s ≡ got u t)) → Tied s u t
    by-object u (inl w) = let i = under-inv jobj (pairs (value d) (tail s)) w.1 in subst (λ (x : Json). Tied s x t) i.2 (tied-object i.0 w.0 i.1)
    by-object u (inr w) = scalar-tied s u t w.1

    by-array : (u : Json) → ((eqb (first s) 91 ≡ true) × (under jarr (elements (value d) (tail s)) ≡ got u t)) ⊎ ((eqb (first s) 91 ≡ false) × (on (is 123) (λ c t. under jobj (pairs (value d) t)) scalar s ≡ got u t)) → Tied s u t
    by-array u (inl w) = let i = under-inv jarr (elements (value d) (tail s)) w.1 in subst (λ (x : Json). Tied s x t) i.2 (tied-array i.0 w.0 i.1)
    by-array u (inr w) = by-object u (on-inv (is 123) _ _ s w.1)

-- ---- values

after-space : (s : Bytes) (u : Json) (t : Bytes) → Tied (skip s) u t → Tied s u t
after-space s u t h = record { so = λ k d r q. sym (squeezed-skip s) ∙ h.so k d r q }

pub value-tied : (d : ℕ) (s : Bytes) (u : Json) (t : Bytes) → value d s ≡ got u t → Tied s u t
unfolding value
value-tied zero s u t e = after-space s u t (scalar-tied (skip s) u t e)
value-tied (suc d) s u t e = after-space s u t (by-array d (value-tied d) (skip s) t u (on-inv (is 91) _ _ (skip s) e))
