-- Loops: as many turns as go on, and one that is the last.
use mathlib.Core.Path.{◌≡◌, refl, sym, ap, subst, ◌∙◌}
use mathlib.Core.Bool.{Bool, true, false}
use mathlib.Core.List.{[], ◌∷◌, ◌++◌, append_assoc, append-nil}
use mathlib.Core.Logic.{◌⊎◌, inl, inr}
use Prim.Native.Nat.{ℕ, zero, suc, ◌<◌}
use native.Mathlib.Omega.{arith}
use lib.ListN.{length}
use Rattle.text.specs.Bytes.{Bytes}
use Rattle.text.specs.Reader.{Got, got, bad, first, Step, more, last, after, turns, loop}
use Rattle.text.proofs.Readers.{not-bad, got-rest, got-what, bind_inv, under-inv, Takes}
use Rattle.json_text.specs.Grammar.{Lang, ◌then◌, Many, none_more, one_more}
use Rattle.json_grammar.proofs.Forms.{Short, Reads, not-got, bind-bad, under-bad, first-append, first-cons}

-- the last turn
abbrev pub ends : {B : Type 0} → Step B → Bool
ends (more g) = false
ends (last b) = true

abbrev pub Loop : (Bool → Lang) → Lang
Loop T = Many (T false) then T true

module _ {B : Type 0} (f : Bytes → Got (Step B)) where
  more-got : (m : ℕ) (x y z : Bytes) (g : B → B) (c b : B) → f x ≡ got (more g) y → g c ≡ b → ((m : ℕ) → length y < m → turns f m y ≡ got c z) → length y < length x → length x < m → turns f m x ≡ got b z
  unfolding turns
  more-got zero x y z g c b e q h k l = absurd (omega arith)
  more-got (suc m) x y z g c b e q h k l = rw (e, h m (omega arith)) (ap (λ a. got a z) q)

  more-bad : (m : ℕ) (x y z : Bytes) (g : B → B) → f x ≡ got (more g) y → ((m : ℕ) → length y < m → turns f m y ≡ bad z) → length y < length x → length x < m → turns f m x ≡ bad z
  unfolding turns
  more-bad zero x y z g e h k l = absurd (omega arith)
  more-bad (suc m) x y z g e h k l = rw (e, h m (omega arith))

  last-got : (m : ℕ) (x z : Bytes) (b : B) → f x ≡ got (last b) z → length x < m → turns f m x ≡ got b z
  unfolding turns
  last-got zero x z b e l = absurd (omega arith)
  last-got (suc m) x z b e l = rw e

  now-bad : (m : ℕ) (x z : Bytes) → f x ≡ bad z → length x < m → turns f m x ≡ bad z
  unfolding turns
  now-bad zero x z e l = absurd (omega arith)
  now-bad (suc m) x z e l = rw e

module _ {B : Type 0} (T : Bool → Lang) {f : Bytes → Got (Step B)} (takes : Takes 1 f) (r : Reads (λ w. T (ends w)) f) (none : B) (close : Bytes) (closes : T true close) where
  Good : Bytes → B → Bytes → Type 0
  Good s b w = (u : Bytes) × (s ≡ u ++ w) × Loop T u × ((m : ℕ) (v : Bytes) → first v ≡ first w → length (u ++ v) < m → turns f m (u ++ v) ≡ got b v)

  Fail : Bytes → Bytes → Type 0
  Fail s t = (u : Bytes) × (s ≡ u ++ t) × Short (λ (b : B). Loop T) u × ((c : ℕ) (y q : Bytes) → t ≡ c ∷ y → (m : ℕ) → length (u ++ c ∷ q) < m → turns f m (u ++ c ∷ q) ≡ bad (c ∷ q))

  -- one turn more
  loop-more : (u v : Bytes) → T false u → Loop T v → Loop T (u ++ v)
  loop-more u v t l = (u ++ l.0, l.1, ap (λ (x : Bytes). u ++ x) l.2 ∙ sym (append_assoc u l.0 l.1), one_more (u ++ l.0) u l.0 refl t l.3, l.4)

  after-good : (n : ℕ) (s : Bytes) (w : Step B) (t : Bytes) (b : B) (v : Bytes) → f s ≡ got w t → ((c : B) → turns f n t ≡ got c v → Good t c v) → after w t (turns f n) ≡ got b v → Good s b v
  unfolding Good
  after-good n s (more g) t b w q h e =
      let i = under-inv g (turns f n t) e in
      let x = r.good s (more g) t q in
      let y = h i.0 i.1 in
      let m : s ≡ (x.0 ++ y.0) ++ w = x.1 ∙ ap (λ (z : Bytes). x.0 ++ z) y.1 ∙ sym (append_assoc x.0 y.0 w) in (
        x.0 ++ y.0,
        m,
        loop-more x.0 y.0 x.2 y.2,
        λ m v k l.
            let a : f ((x.0 ++ y.0) ++ v) ≡ got (more g) (y.0 ++ v) = ap f (append_assoc x.0 y.0 v) ∙ x.3 (y.0 ++ v) (first-append y.0 v w k ∙ ap first (sym y.1)) in
            more-got f m ((x.0 ++ y.0) ++ v) (y.0 ++ v) v g i.0 b a i.2 (λ m l. y.3 m v k l) (omega (arith, takes.less ((x.0 ++ y.0) ++ v) (more g) (y.0 ++ v) a)) l,
      )
  after-good n s (last d) t b w q h e =
      let x = r.good s (last d) t q in (
        x.0,
        x.1 ∙ ap (λ (z : Bytes). x.0 ++ z) (got-rest e),
        ([], x.0, refl, none_more [] refl, x.2),
        λ m v k l. last-got f m (x.0 ++ v) v b (x.3 v (k ∙ ap first (sym (got-rest e))) ∙ ap (λ a. got (last a) v) (got-what e)) l,
      )

  turns-good : (n : ℕ) (s : Bytes) (b : B) (w : Bytes) → turns f n s ≡ got b w → Good s b w
  unfolding turns
  turns-good zero s b w e = absurd (not-bad e)
  turns-good (suc n) s b w e =
      let i = bind_inv (f s) (λ w t. after w t (turns f n)) e in
      after-good n s i.0 i.1 b w i.2 (λ c q. turns-good n i.1 c w q) i.3

  by_end : (w : Bool) (u : Bytes) → T w u → (q : Bytes) × Loop T (u ++ q)
  by_end true u t = ([], ([], u, append-nil u, none_more [] refl, t))
  by_end false u t = (close, loop-more u close t ([], close, refl, none_more [] refl, closes))

  now_short : (u : Bytes) → Short (λ (w : Step B). T (ends w)) u → Short (λ (b : B). Loop T) u
  now_short u (inl e) = inl e
  now_short u (inr q) = let x = by_end (ends q.1) (u ++ q.0) q.2 in inr (q.0 ++ x.0, none, subst (Loop T) (append_assoc u q.0 x.0) x.1)

  later-short : (u v : Bytes) → T false u → Short (λ (b : B). Loop T) v → Short (λ (b : B). Loop T) (u ++ v)
  later-short u v t (inl e) = let x = by_end false u t in inr (x.0, none, subst (λ (z : Bytes). Loop T (z ++ x.0)) (sym (append-nil u) ∙ ap (λ (z : Bytes). u ++ z) (sym e)) x.1)
  later-short u v t (inr q) = inr (q.0, none, subst (Loop T) (sym (append_assoc u v q.0)) (loop-more u (v ++ q.0) t q.2))

  after-fail : (n : ℕ) (s : Bytes) (w : Step B) (t z : Bytes) → f s ≡ got w t → (turns f n t ≡ bad z → Fail t z) → after w t (turns f n) ≡ bad z → Fail s z
  unfolding Fail
  after-fail n s (more g) t z q h e =
      let x = r.good s (more g) t q in
      let y = h (under-bad g (turns f n t) e) in
      let m : s ≡ (x.0 ++ y.0) ++ z = x.1 ∙ ap (λ (v : Bytes). x.0 ++ v) y.1 ∙ sym (append_assoc x.0 y.0 z) in (
        x.0 ++ y.0,
        m,
        later-short x.0 y.0 x.2 y.2,
        λ c v k o m l.
            let a : f ((x.0 ++ y.0) ++ c ∷ k) ≡ got (more g) (y.0 ++ c ∷ k) = ap f (append_assoc x.0 y.0 (c ∷ k)) ∙ x.3 (y.0 ++ c ∷ k) (first-cons y.0 z k c v o ∙ ap first (sym y.1)) in
            more-bad f m ((x.0 ++ y.0) ++ c ∷ k) (y.0 ++ c ∷ k) (c ∷ k) g a (λ m l. y.3 c v k o m l) (omega (arith, takes.less ((x.0 ++ y.0) ++ c ∷ k) (more g) (y.0 ++ c ∷ k) a)) l,
      )
  after-fail n s (last d) t z q h e = absurd (not-got e)

  turns-fail : (n : ℕ) (s t : Bytes) → length s < n → turns f n s ≡ bad t → Fail s t
  unfolding turns Fail
  turns-fail zero s t l e = absurd (omega arith)
  turns-fail (suc n) s t l e = by (λ w z q. turns-fail n z t (omega (arith, takes.less s w z q))) (bind-bad (f s) (λ w t. after w t (turns f n)) e)
    where
      by : ((w : Step B) (z : Bytes) → f s ≡ got w z → turns f n z ≡ bad t → Fail z t)
          → (f s ≡ bad t) ⊎ ((w : Step B) × (z : Bytes) × (f s ≡ got w z) × (after w z (turns f n) ≡ bad t)) → Fail s t
      by h (inl i) = let x = r.fail s t i in (x.0, x.1, now_short x.0 x.2, λ c y q o m k. now-bad f m (x.0 ++ c ∷ q) (c ∷ q) (x.3 c y q o) k)
      by h (inr i) = after-fail n s i.0 i.1 t i.2 (h i.0 i.1 i.2) i.3

  pub reads-loop : Reads (λ (b : B). Loop T) (loop f)
  unfolding loop Good Fail
  reads-loop = record {
    good = λ s b w e. let x = turns-good (suc (length s)) s b w e in (x.0, x.1, x.2, λ v q. x.3 (suc (length (x.0 ++ v))) v q (omega arith));
    fail = λ s t e. let x = turns-fail (suc (length s)) s t (omega arith) e in (x.0, x.1, x.2, λ c y q o. x.3 c y q o (suc (length (x.0 ++ c ∷ q))) (omega arith));
  }
