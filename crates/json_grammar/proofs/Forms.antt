-- What a reader tells of its input, by a set of byte strings: one law for each form of reader.
use mathlib.Core.Path.{◌≡◌, refl, sym, ap, subst, ◌∙◌}
use mathlib.Core.List.{[], ◌∷◌, ◌++◌, append_assoc, append-nil}
use mathlib.Core.Logic.{◌⊎◌, inl, inr}
use Prim.Native.Nat.{ℕ}
use Rattle.text.specs.Bytes.{Bytes}
use Rattle.text.specs.Reader.{Got, got, bad, bind, under, first}
use Rattle.text.proofs.Readers.{not-bad, got-rest, got-what, bind_inv, under-inv}
use Rattle.json_text.specs.Grammar.{Lang, ◌then◌}

-- nothing, or what can be completed
abbrev pub Short : {A : Type 0} → (A → Lang) → Lang
Short {A} L u = (u ≡ []) ⊎ ((q : Bytes) × (a : A) × L a (u ++ q))

-- there is one
abbrev pub Some : {A : Type 0} → (A → Lang) → Type 0
Some {A} L = (a : A) × (v : Bytes) × L a v

-- What is read is of the set, and is read again before whatever begins with the same byte. Where it fails, what stands before can
-- be completed, and it fails there whatever stands after that byte.
pub record Reads {A : Type 0} (L : A → Lang) (R : Bytes → Got A) : Type 0 where
  pub good : (s : Bytes) (a : A) (w : Bytes) → R s ≡ got a w → (u : Bytes) × (s ≡ u ++ w) × L a u × ((v : Bytes) → first v ≡ first w → R (u ++ v) ≡ got a v)
  pub fail : (s t : Bytes) → R s ≡ bad t → (u : Bytes) × (s ≡ u ++ t) × Short L u × ((c : ℕ) (r q : Bytes) → t ≡ c ∷ r → R (u ++ c ∷ q) ≡ bad (c ∷ q))

-- ---- what is known where a reader failed

pub not-got : {A : Type 0} {s : Bytes} {a : A} {w : Bytes} → got a w ≡ bad s → ⊥
not-got e = not-bad (sym e)

pub bad-rest : {A : Type 0} {s t : Bytes} → ◌≡◌ {A = Got A} (bad s) (bad t) → s ≡ t
bad-rest e = cc

pub bind-bad : {A B : Type 0} (x : Got A) (k : A → Bytes → Got B) {t : Bytes} → bind x k ≡ bad t → (x ≡ bad t) ⊎ ((a : A) × (w : Bytes) × (x ≡ got a w) × (k a w ≡ bad t))
bind-bad (got a w) k e = inr (a, w, refl, e)
bind-bad (bad w) k e = inl (ap bad (bad-rest e))

pub under-bad : {A B : Type 0} (f : A → B) (x : Got A) {t : Bytes} → under f x ≡ bad t → x ≡ bad t
under-bad f (got a w) e = absurd (not-got e)
under-bad f (bad w) e = ap bad (bad-rest e)

-- ---- first bytes

pub first-append : (u v w : Bytes) → first v ≡ first w → first (u ++ v) ≡ first (u ++ w)
first-append [] v w e = e
first-append (c ∷ u) v w e = refl

pub first-cons : (u t q : Bytes) (c : ℕ) (r : Bytes) → t ≡ c ∷ r → first (u ++ c ∷ q) ≡ first (u ++ t)
first-cons u t q c r e = first-append u (c ∷ q) t (sym (ap first e))

-- ---- the forms

module _ {A : Type 0} {L : A → Lang} where
  pub reads-got : (a : A) → L a [] → Reads L (got a)
  reads-got a l = record {
    good = λ s b w e. ([], got-rest e, subst (λ x. L x []) (got-what e) l, λ v f. ap (λ x. got x v) (got-what e));
    fail = λ s t e. absurd (not-got e);
  }

  pub reads-bad : Reads L bad
  reads-bad = record {
    good = λ s a w e. absurd (not-bad e);
    fail = λ s t e. ([], bad-rest e, inl refl, λ c r q f. refl);
  }

  -- another set
  pub reads_as : {R : Bytes → Got A} {M : A → Lang} → ((a : A) (u : Bytes) → L a u → M a u) → Reads L R → Reads M R
  reads_as {R} {M} h r = record {
    good = λ s a w e. let x = r.good s a w e in (x.0, x.1, h a x.0 x.2, x.3);
    fail = λ s t e. let x = r.fail s t e in (x.0, x.1, short x.0 x.2, x.3);
  }
    where
      short : (u : Bytes) → Short L u → Short M u
      short u (inl e) = inl e
      short u (inr q) = inr (q.0, q.1, h q.1 (u ++ q.0) q.2)

  pub reads-under : {B : Type 0} {R : Bytes → Got A} {M : B → Lang} (f : A → B) → ((a : A) (u : Bytes) → L a u → M (f a) u) → Reads L R → Reads M (λ s. under f (R s))
  reads-under {B} {R} {M} f h r = record {
    good = λ s b w e.
        let i = under-inv f (R s) e in
        let x = r.good s i.0 w i.1 in
        (x.0, x.1, subst (λ y. M y x.0) i.2 (h i.0 x.0 x.2), λ v q. rw (x.3 v q) (ap (λ y. got y v) i.2));
    fail = λ s t e. let x = r.fail s t (under-bad f (R s) e) in (x.0, x.1, short x.0 x.2, λ c y q z. rw (x.3 c y q z));
  }
    where
      short : (u : Bytes) → Short L u → Short M u
      short u (inl e) = inl e
      short u (inr q) = inr (q.0, f q.1, h q.1 (u ++ q.0) q.2)

-- one after the other
module _ {A B : Type 0} {P : Lang} {Q : B → Lang} {R : Bytes → Got A} {K : A → Bytes → Got B} (r : Reads (λ a. P) R) (k : (a : A) → Reads Q (K a)) (some : Some Q) where
  Both : B → Lang
  Both b = P then Q b

  bind-good : (s : Bytes) (b : B) (w : Bytes) → bind (R s) K ≡ got b w → (u : Bytes) × (s ≡ u ++ w) × Both b u × ((v : Bytes) → first v ≡ first w → bind (R (u ++ v)) K ≡ got b v)
  unfolding Both
  bind-good s b w e =
      let i = bind_inv (R s) K e in
      let x = r.good s i.0 i.1 i.2 in
      let y = (k i.0).good i.1 b w i.3 in
      let m : s ≡ (x.0 ++ y.0) ++ w = x.1 ∙ ap (λ (z : Bytes). x.0 ++ z) y.1 ∙ sym (append_assoc x.0 y.0 w) in (
        x.0 ++ y.0,
        m,
        (x.0, y.0, refl, x.2, y.2),
        λ v f. rw (append_assoc x.0 y.0 v, x.3 (y.0 ++ v) (first-append y.0 v w f ∙ ap first (sym y.1))) (y.3 v f),
      )

  one-short : (u : Bytes) → Short (λ (a : A). P) u → Short Both u
  unfolding Both
  one-short u (inl e) = inl e
  one-short u (inr q) = inr (q.0 ++ some.1, some.0, (u ++ q.0, some.1, sym (append_assoc u q.0 some.1), q.2, some.2))

  two-short : (u v : Bytes) → P u → Short Q v → Short Both (u ++ v)
  unfolding Both
  two-short u v p (inl e) = inr (some.1, some.0, (u, some.1, ap (λ (z : Bytes). (u ++ z) ++ some.1) e ∙ ap (λ (z : Bytes). z ++ some.1) (append-nil u), p, some.2))
  two-short u v p (inr q) = inr (q.0, q.1, (u, v ++ q.0, append_assoc u v q.0, p, q.2))

  bind-fail : (s t : Bytes) → bind (R s) K ≡ bad t → (u : Bytes) × (s ≡ u ++ t) × Short Both u × ((c : ℕ) (y q : Bytes) → t ≡ c ∷ y → bind (R (u ++ c ∷ q)) K ≡ bad (c ∷ q))
  bind-fail s t e = by (bind-bad (R s) K e)
    where
      by : (R s ≡ bad t) ⊎ ((a : A) × (w : Bytes) × (R s ≡ got a w) × (K a w ≡ bad t)) → (u : Bytes) × (s ≡ u ++ t) × Short Both u × ((c : ℕ) (y q : Bytes) → t ≡ c ∷ y → bind (R (u ++ c ∷ q)) K ≡ bad (c ∷ q))
      by (inl i) = let x = r.fail s t i in (x.0, x.1, one-short x.0 x.2, λ c y q f. rw (x.3 c y q f))
      by (inr i) =
          let x = r.good s i.0 i.1 i.2 in
          let y = (k i.0).fail i.1 t i.3 in
          let m : s ≡ (x.0 ++ y.0) ++ t = x.1 ∙ ap (λ (z : Bytes). x.0 ++ z) y.1 ∙ sym (append_assoc x.0 y.0 t) in (
            x.0 ++ y.0,
            m,
            two-short x.0 y.0 x.2 y.2,
            λ c z q f. rw (append_assoc x.0 y.0 (c ∷ q), x.3 (y.0 ++ c ∷ q) (first-cons y.0 t q c z f ∙ ap first (sym y.1))) (y.3 c z q f),
          )

  pub reads-bind : Reads (λ b. P then Q b) (λ s. bind (R s) K)
  unfolding Both
  reads-bind = record { good = bind-good; fail = bind-fail }
