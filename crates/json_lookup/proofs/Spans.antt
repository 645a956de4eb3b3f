-- The members that the reader reads are those that are looked through.
use mathlib.Core.Path.{◌≡◌, refl, sym, ap, subst, ◌∙◌}
use mathlib.Core.Bool.{Bool, true, false}
use mathlib.Core.List.{List, [], ◌∷◌, tail}
use mathlib.Core.Logic.{◌⊎◌, inl, inr, ⊎_elim}
use Prim.Native.Nat.{ℕ, zero, suc}
use lib.Dec.{eqb}
use Rattle.text.specs.Bytes.{Bytes}
use Rattle.text.specs.Choice.{pick}
use Rattle.text.specs.Reader.{got, bad, bind, under, first, on, Step, more, last, after, turns}
use Rattle.text.proofs.Readers.{not-bad, got-rest, got-what, bind_inv, under-inv}
use Rattle.json_text.specs.Tree.{Json, Members, mnil, mcons}
use Rattle.json_text.specs.Syntax.{skip, name, sep, pair, value}
use Rattle.json_text.specs.Lookup.{Span, span_of}
use Rattle.json_access.proofs.Laws.{value-skip}
use Rattle.json_lookup.proofs.Rests.{Ends, ends-then, ends-skip, ends-sep, ends-value, ends-name}

abbrev pub span_at : Bytes → Bytes → Bytes → Span
span_at k t u = record { name = k; from = skip t; after = u }

pub span-turn : (d : ℕ) (s k t : Bytes) (j : Json) (u : Bytes) → name s ≡ got k t → value d t ≡ got j u → span_of d s ≡ sep 125 (span_at k t u ∷ []) (λ ps. span_at k t u ∷ ps) u
unfolding span_of
span-turn d s k t j u n v = rw (n, v)

pub span-step : (n d : ℕ) (s : Bytes) (w : Step (List Span)) (v : Bytes) → span_of d s ≡ got w v → turns (span_of d) (suc n) s ≡ after w v (turns (span_of d) n)
unfolding turns
span-step n d s w v e = rw e

-- a separator reads the same whatever the values are put into
module _ {A B : Type 0} (a : A) (f : A → A) (b : B) (g : B → B) where
  both_by : (p q : Bool) (t u : Bytes) (w : Step A) (v : Bytes) → pick p (got (last a) t) (pick q (got (more f) t) (bad u)) ≡ got w v
      → ((w ≡ last a) × (pick p (got (last b) t) (pick q (got (more g) t) (bad u)) ≡ got (last b) v)) ⊎ ((w ≡ more f) × (pick p (got (last b) t) (pick q (got (more g) t) (bad u)) ≡ got (more g) v))
  both_by true q t u w v e = inl (sym (got-what e), ap (got (last b)) (got-rest e))
  both_by false true t u w v e = inr (sym (got-what e), ap (got (more g)) (got-rest e))
  both_by false false t u w v e = absurd (not-bad e)

  pub sep-both : (close : ℕ) (s : Bytes) (w : Step A) (v : Bytes) → sep close a f s ≡ got w v
      → ((w ≡ last a) × (sep close b g s ≡ got (last b) v)) ⊎ ((w ≡ more f) × (sep close b g s ≡ got (more g) v))
  unfolding sep on
  sep-both close s w v e = both_by (eqb (first (skip s)) close) (eqb (first (skip s)) 44) (tail (skip s)) (skip s) w v e

-- each span has its member's name, and its member's value is read where it begins
abbrev pub Spanned : ℕ → Bytes → List Span → Members → Type 0
Spanned d s [] mnil = Unit {0}
Spanned d s [] (mcons k u us) = ⊥
Spanned d s (p ∷ ps) mnil = ⊥
Spanned d s (p ∷ ps) (mcons k u us) = (p.name ≡ k) × Ends s p.from × (value d p.from ≡ got u p.after) × Spanned d s ps us

module _ (d : ℕ) (s : Bytes) where
  pub spanned : (n : ℕ) (r : Bytes) (us : Members) (t : Bytes) → Ends s r → turns (pair (value d)) n r ≡ got us t → (ps : List Span) × (turns (span_of d) n r ≡ got ps t) × Spanned d s ps us
  unfolding turns pair
  spanned zero r us t h e = absurd (not-bad e)
  spanned (suc n) r us t h e =
      let l = bind_inv (pair (value d) r) (λ w v. after w v (turns (pair (value d)) n)) e in
      let a = bind_inv (name r) (λ k t. bind (value d t) λ j u. sep 125 (mcons k j mnil) (mcons k j) u) l.2 in
      let b = bind_inv (value d a.1) (λ j u. sep 125 (mcons a.0 j mnil) (mcons a.0 j) u) a.3 in
      let x = span_at a.0 a.1 b.1 in
      let z = span-turn d r a.0 a.1 b.0 b.1 a.2 b.2 in
      let c = ends-then h (ends-name r a.0 a.1 a.2) in
      let f = ends-then c (ends-skip a.1) in
      let v = value-skip d a.1 ∙ b.2 in
      let g = ends-then (ends-then c (ends-value d a.1 b.0 b.1 b.2)) (ends-sep 125 (mcons a.0 b.0 mnil) (mcons a.0 b.0) b.1 l.0 l.1 b.3) in
      ⊎_elim
      (λ o. (
        x ∷ [],
        span-step n d r _ l.1 (z ∙ o.1) ∙ ap (got (x ∷ [])) (got-rest (rw o.0 at l.3)),
        subst (Spanned d s (x ∷ [])) (got-what (rw o.0 at l.3)) (refl, f, v, tt),
      ))
      (λ o. let i = under-inv (mcons a.0 b.0) (turns (pair (value d)) n l.1) (rw o.0 at l.3) in
      let k = spanned n l.1 i.0 t g i.1 in (
        x ∷ k.0,
        span-step n d r _ l.1 (z ∙ o.1) ∙ ap (under (λ (ps : List Span). x ∷ ps)) k.1,
        subst (Spanned d s (x ∷ k.0)) i.2 (refl, f, v, k.2),
      ))
      (sep-both (mcons a.0 b.0 mnil) (mcons a.0 b.0) (x ∷ []) (λ ps. x ∷ ps) 125 b.1 l.0 l.1 b.3)
