-- Four elements of an array.
use mathlib.Core.Path.{◌≡◌, refl, sym, ap, subst, ◌∙◌}
use mathlib.Core.List.{List, [], ◌∷◌}
use mathlib.Core.Option.{none, some}
use Prim.Native.Nat.{ℕ, zero, suc, ◌+◌, ◌≤◌}
use native.Mathlib.Omega.{arith}
use lib.ListN.{length, drop}
use Rattle.text.specs.Places.{Read}
use Rattle.std.proofs.Common.{Continue, Break}
use Rattle.text.specs.Bytes.{Bytes}
use Rattle.text.specs.Reader.{got, loop}
use Rattle.text.specs.Places.{GivesT, byte_at, Passes}
use Rattle.json_text.specs.Grammar.{is_space}
use Rattle.json_text.specs.Tree.{Json, jnull, jtrue, jfalse, jnum, jstr, jarr, jobj, Elems, enil, elems_of, as_array}
use Rattle.json_text.specs.Syntax.{sep, item, value}
use Rattle.json_text.specs.Strings.{decoded_elems}
use Rattle.json_access.specs.declared.Part.{Part}
use Rattle.json_access.specs.declared.Kind.TheVariants.{Array}
use Rattle.json_access.specs.Access.{place_of, Inside, EndsAt, TellsElement, kind_of}
use Rattle.json_index.specs.Index.{json_at}
use Rattle.json_index.proofs.Laws.{place-within}
use Rattle.to_card_kept_entry.proofs.strings.Elements.{item-here, elems-on, elems-none, elems-end, next_elem, elem-stands, elems-nil, elems-cons, enil-decoded, not-array, empty-array, array-elems, array-end}
use Rattle.to_card_kept_entry.specs.entry.Entry.{FourList, FourIs, FourIn, TellsFour}
use Rattle.std.specs.Prelude.{None}
use Rattle.to_card_kept_entry.specs.entry.Entry.{FourAt, elements}

-- elements stand from a place on
pub record Here (s : Bytes) (i : ℕ) (es : Elems) : Type 0 where
  pub units : Elems
  pub rest : Bytes
  pub is-units : loop (item (value 13)) (drop i s) ≡ got units rest
  pub is-es : decoded_elems units ≡ some es

record Then (s : Bytes) (e : Part) (es : Elems) : Type 0 where
  val : Json
  others : Elems
  is : elems_of es ≡ val ∷ elems_of others
  stands : json_at 13 s e.start ≡ some val

-- what `element_at` tells, and then `separator`
abbrev Told : Bytes → ℕ → Part → Type 0
Told s i e = Inside i (length s) e.start e.end × TellsElement 13 s i e

abbrev Gives : Bytes → Part → ℕ → Type 0
Gives s e j = GivesT s e.end (sep 93 zero suc (drop e.end s)) (Continue j)

abbrev Stops : Bytes → Part → Read → Type 0
Stops s e r = GivesT s e.end (sep 93 zero suc (drop e.end s)) (Break r)

-- elements are read from a place on, with t left
abbrev Reads : Bytes → ℕ → Bytes → Type 0
Reads s i t = (us : Elems) × (loop (item (value 13)) (drop i s) ≡ got us t)

module _ (s : Bytes) (i : ℕ) (e : Part) (told : Told s i e) where
  then-on : (j : ℕ) → Gives s e j → (es : Elems) → Here s i es → (t : Then s e es) × Here s j t.others
  then-on j w es h =
      let z = item-here 13 s i h.units h.rest h.is-units in
      let x = elem-stands 13 s i h.units z e told.1 in
      let o = elems-on 13 s i h.units h.rest h.is-units z e.end x.0 j w in
      let n = next_elem z.val o.0 es (ap decoded_elems o.2 ∙ h.is-es) in (
        record { val = n.val; others = n.others; is = ap elems_of (sym n.is) ∙ elems-cons n.val n.others; stands = x.1 n.val n.is-val },
        record { units = o.0; rest = h.rest; is-units = o.1; is-es = n.is-others },
      )

  then-last : (r : Read) → Stops s e r → (es : Elems) → Here s i es → (v : Json) × (elems_of es ≡ v ∷ []) × (json_at 13 s e.start ≡ some v)
  then-last r w es h =
      let z = item-here 13 s i h.units h.rest h.is-units in
      let x = elem-stands 13 s i h.units z e told.1 in
      let o = elems-none 13 s i h.units h.rest h.is-units z e.end x.0 r w in
      let n = next_elem z.val enil es (ap decoded_elems o ∙ h.is-es) in
      let l : elems_of n.others ≡ [] = ap elems_of (sym (enil-decoded n.others n.is-others)) ∙ elems-nil in
      (n.val, ap elems_of (sym n.is) ∙ elems-cons n.val n.others ∙ ap (λ (u : List Json). n.val ∷ u) l, x.1 n.val n.is-val)

  reads_on : (j : ℕ) → Gives s e j → (t : Bytes) → Reads s i t → Reads s j t
  reads_on j w t h =
      let z = item-here 13 s i h.0 t h.1 in
      let o = elems-on 13 s i h.0 t h.1 z e.end (elem-stands 13 s i h.0 z e told.1).0 j w in
      (o.0, o.1)

  reads_end : (r : Read) → Stops s e r → (t : Bytes) → Reads s i t → t ≡ drop (place_of r) s
  reads_end r w t h =
      let z = item-here 13 s i h.0 t h.1 in
      elems-end 13 s i h.0 t h.1 z e.end (elem-stands 13 s i h.0 z e told.1).0 r w

  -- the place after it
  further : i ≤ length s → (j : ℕ) → Gives s e j → (i ≤ j) × (j ≤ length s)
  further l j w = (omega (arith, told.0.from l, told.0.ordered, w.within.0), w.within.1)

  furthest : i ≤ length s → (r : Read) → Stops s e r → (p : ℕ) → p ≡ place_of r → (i ≤ p) × (p ≤ length s)
  furthest l r w p q = let o = place-within w p q in (omega (arith, told.0.from l, told.0.ordered, o.0), o.1)

  starts : e.start ≤ length s
  starts = omega (arith, told.0.ordered, told.0.end-in)

longer : {s : Bytes} {e : Part} {es : Elems} (t : Then s e es) {os : List Json} → elems_of t.others ≡ os → elems_of es ≡ t.val ∷ os
longer t q = t.is ∙ ap (λ (u : List Json). t.val ∷ u) q

-- there is one at least
one-there : (s : Bytes) (i : ℕ) (es : Elems) → Here s i es → (v : Json) × (os : List Json) × (elems_of es ≡ v ∷ os)
one-there s i es h =
    let z = item-here 13 s i h.units h.rest h.is-units in
    let n = next_elem z.val z.others es (ap decoded_elems (sym z.is) ∙ h.is-es) in
    (n.val, elems_of n.others, ap elems_of (sym n.is) ∙ elems-cons n.val n.others)

other_none : (v : Json) → (kind_of v ≡ Array → ⊥) → as_array v ≡ none
other_none jnull n = refl
other_none jtrue n = refl
other_none jfalse n = refl
other_none (jnum x) n = refl
other_none (jstr x) n = refl
other_none (jarr es) n = absurd (n refl)
other_none (jobj ms) n = refl

-- an array that is not empty stands at a place, and its elements from j on
pub record Opens (s : Bytes) (at j : ℕ) : Type 0 where
  pub from : at ≤ j
  pub within : j ≤ length s
  pub elems : (v : Json) → json_at 14 s at ≡ some v → (es : Elems) × Here s j es × (v ≡ jarr es)
  pub ends : (r : ℕ) → ((us : Elems) (t : Bytes) → loop (item (value 13)) (drop j s) ≡ got us t → t ≡ drop r s) → EndsAt 14 s at r

module _ (s : Bytes) (at i c : ℕ) (h : Passes is_space s at i) (l : c ≡ byte_at s i) where
  pub four-other : (c ≡ 91 → ⊥) → TellsFour s at None
  four-other q v w = subst (FourIs s None) (sym (other_none v (not-array 13 s at i c h l q v w))) refl

  module _ (q : c ≡ 91) (j d : ℕ) (k : Passes is_space s (i + 1) j) (g : d ≡ byte_at s j) where
    pub four-empty : d ≡ 93 → TellsFour s at None
    four-empty p v w = subst (FourIs s None) (sym (ap as_array (empty-array 13 s at i c h l q j d k g p v w) ∙ ap some elems-nil)) refl

    pub opens : (d ≡ 93 → ⊥) → Opens s at j
    opens p = record {
      from = omega (arith, h.from, k.from);
      within = k.to;
      elems = λ v w.
          let o = array-elems 13 s at i c h l q j d k g p v w in
          (o.1, record { units = o.0; rest = o.2; is-units = o.3; is-es = o.4 }, o.5);
      ends = array-end 13 s at i c h l q j d k g p;
    }

-- by the list of elements
pub by-elems : {s : Bytes} {at j : ℕ} → Opens s at j → (r : FourAt) → ((es : Elems) → Here s j es → FourList s r (elems_of es)) → TellsFour s at r
by-elems {s} o r f v w = let x = o.elems v w in subst (λ (y : Json). FourIs s r (as_array y)) (sym x.2) (f x.0 x.1)

module _ (s : Bytes) (j : ℕ) (e : Part) (told : Told s j e) where
  pub four-1 : (r : Read) → Stops s e r → (es : Elems) → Here s j es → FourList s None (elems_of es)
  four-1 r w es h = let o = then-last s j e told r w es h in subst (FourList s None) (sym o.1) refl

  module _ (j2 : ℕ) (w : Gives s e j2) (e2 : Part) (told2 : Told s j2 e2) where
    pub four-2 : (r : Read) → Stops s e2 r → (es : Elems) → Here s j es → FourList s None (elems_of es)
    four-2 r w2 es h =
        let a = then-on s j e told j2 w es h in
        let o = then-last s j2 e2 told2 r w2 a.0.others a.1 in
        subst (FourList s None) (sym (longer a.0 o.1)) refl

    module _ (j3 : ℕ) (w2 : Gives s e2 j3) (e3 : Part) (told3 : Told s j3 e3) where
      pub four-3 : (r : Read) → Stops s e3 r → (es : Elems) → Here s j es → FourList s None (elems_of es)
      four-3 r w3 es h =
          let a = then-on s j e told j2 w es h in
          let b = then-on s j2 e2 told2 j3 w2 a.0.others a.1 in
          let o = then-last s j3 e3 told3 r w3 b.0.others b.1 in
          subst (FourList s None) (sym (longer a.0 (longer b.0 o.1))) refl

      module _ (j4 : ℕ) (w3 : Gives s e3 j4) (e4 : Part) (told4 : Told s j4 e4) where
        pub four-more : (j5 : ℕ) → Gives s e4 j5 → (es : Elems) → Here s j es → FourList s None (elems_of es)
        four-more j5 w4 es h =
            let a = then-on s j e told j2 w es h in
            let b = then-on s j2 e2 told2 j3 w2 a.0.others a.1 in
            let c = then-on s j3 e3 told3 j4 w3 b.0.others b.1 in
            let d = then-on s j4 e4 told4 j5 w4 c.0.others c.1 in
            let f = one-there s j5 d.0.others d.1 in
            subst (FourList s None) (sym (longer a.0 (longer b.0 (longer c.0 (longer d.0 f.2))))) refl

        module _ (r : Read) (w4 : Stops s e4 r) (end : ℕ) (is-end : end ≡ place_of r) where
          pub four-here : (es : Elems) → Here s j es → FourList s (elements e.start e2.start e3.start e4.start end) (elems_of es)
          four-here es h =
              let a = then-on s j e told j2 w es h in
              let b = then-on s j2 e2 told2 j3 w2 a.0.others a.1 in
              let c = then-on s j3 e3 told3 j4 w3 b.0.others b.1 in
              let o = then-last s j4 e4 told4 r w4 c.0.others c.1 in
              subst (FourList s (elements e.start e2.start e3.start e4.start end)) (sym (longer a.0 (longer b.0 (longer c.0 o.1)))) (record {
                name = e.start;
                params = e2.start;
                kind = e3.start;
                value = e4.start;
                end = end;
                said = refl;
                is_name = a.0.stands;
                is-params = b.0.stands;
                is-kind = c.0.stands;
                is-value = o.2;
              })

          -- what is left after the four is what is left after the array
          left : (us : Elems) (t : Bytes) → loop (item (value 13)) (drop j s) ≡ got us t → t ≡ drop end s
          left us t h =
              reads_end s j4 e4 told4 r w4 t (reads_on s j3 e3 told3 j4 w3 t (reads_on s j2 e2 told2 j3 w2 t (reads_on s j e told j2 w t (us, h))))
              ∙ ap (λ (x : ℕ). drop x s) (sym is-end)

          pub four-inside : {at : ℕ} → Opens s at j → FourIn s at (elements e.start e2.start e3.start e4.start end)
          four-inside o =
              let a = further s j e told o.within j2 w in
              let b = further s j2 e2 told2 a.1 j3 w2 in
              let c = further s j3 e3 told3 b.1 j4 w3 in
              let d = furthest s j4 e4 told4 c.1 r w4 end is-end in (
                starts s j e told,
                starts s j2 e2 told2,
                starts s j3 e3 told3,
                starts s j4 e4 told4,
                record { from = omega (arith, o.from, a.0, b.0, c.0, d.0); within = d.1; ends = o.ends end left },
              )
