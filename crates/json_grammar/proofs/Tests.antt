-- Readers that look at a byte: by the first byte, past a class, runs of a class.
use mathlib.Core.Path.{◌≡◌, refl, sym, ap, subst, ◌∙◌}
use mathlib.Core.Bool.{Bool, true, false}
use mathlib.Core.List.{[], ◌∷◌, ◌++◌, append_assoc, append-nil}
use mathlib.Core.Logic.{inl, inr}
use Prim.Native.Nat.{ℕ}
use Rattle.text.specs.Bytes.{Bytes, all}
use Rattle.text.specs.Reader.{Got, got, bad, under, first, on, when, taken, past, some_of}
use Rattle.text.proofs.Cases.{by_bool}
use Rattle.text.proofs.Lists.{all_head, all_tail, all_cons}
use Rattle.text.proofs.Readers.{got-rest, got-what, taken-run, past-run, taken-all}
use Rattle.json_text.specs.Grammar.{Lang, One, ◌then◌, Many, none_more, one_more}
use Rattle.json_grammar.proofs.Forms.{Short, Some, Reads, not-got, first-append, first-cons, reads-bad, reads-under}

-- ---- by the first byte

module _ {A : Type 0} (p : ℕ → Bool) (f : ℕ → Bytes → Got A) (g : Bytes → Got A) where
  pub on-yes : (c : ℕ) (s : Bytes) → p c ≡ true → on p f g (c ∷ s) ≡ f c s
  unfolding on
  on-yes c s e = rw e

  pub on-no : (s : Bytes) → p (first s) ≡ false → on p f g s ≡ g s
  unfolding on
  on-no s e = rw e

-- with the byte, what follows is told by f; without it, all is told by g
module _ {A : Type 0} {L M : A → Lang} {f : ℕ → Bytes → Got A} {g : Bytes → Got A} (p : ℕ → Bool) (z : p 256 ≡ false)
    (yes : (c : ℕ) → p c ≡ true → Reads (λ a u. L a (c ∷ u)) (f c)) (some : (c : ℕ) → p c ≡ true → Some (λ a u. L a (c ∷ u)))
    (no : Reads M g) (fits : (a : A) (u : Bytes) → p (first u) ≡ false → M a u → L a u) where
  Good : Bytes → A → Bytes → Type 0
  Good s a w = (u : Bytes) × (s ≡ u ++ w) × L a u × ((v : Bytes) → first v ≡ first w → on p f g (u ++ v) ≡ got a v)

  Fail : Bytes → Bytes → Type 0
  Fail s t = (u : Bytes) × (s ≡ u ++ t) × Short L u × ((c : ℕ) (r q : Bytes) → t ≡ c ∷ r → on p f g (u ++ c ∷ q) ≡ bad (c ∷ q))

  no-first : (u w s : Bytes) → s ≡ u ++ w → p (first s) ≡ false → p (first u) ≡ false
  no-first [] w s e h = z
  no-first (c ∷ u) w s e h = ap (λ (x : Bytes). p (first x)) (sym e) ∙ h

  no-good : (s : Bytes) (a : A) (w : Bytes) → p (first s) ≡ false → g s ≡ got a w → Good s a w
  unfolding Good
  no-good s a w h e =
      let x = no.good s a w e in
      (x.0, x.1, fits a x.0 (no-first x.0 w s x.1 h) x.2, λ v q. on-no p f g (x.0 ++ v) (ap p (first-append x.0 v w q ∙ ap first (sym x.1)) ∙ h) ∙ x.3 v q)

  no_short : (u t s : Bytes) → s ≡ u ++ t → p (first s) ≡ false → Short M u → Short L u
  no_short [] t s e h q = inl refl
  no_short (c ∷ u) t s e h (inl q) = inl q
  no_short (c ∷ u) t s e h (inr q) = inr (q.0, q.1, fits q.1 (c ∷ u ++ q.0) (ap (λ (x : Bytes). p (first x)) (sym e) ∙ h) q.2)

  no-fail : (s t : Bytes) → p (first s) ≡ false → g s ≡ bad t → Fail s t
  unfolding Fail
  no-fail s t h e =
      let x = no.fail s t e in
      (x.0, x.1, no_short x.0 t s x.1 h x.2, λ c r q m. on-no p f g (x.0 ++ c ∷ q) (ap p (first-cons x.0 t q c r m ∙ ap first (sym x.1)) ∙ h) ∙ x.3 c r q m)

  yes-good : (c : ℕ) (s : Bytes) (a : A) (w : Bytes) → p c ≡ true → f c s ≡ got a w → Good (c ∷ s) a w
  unfolding Good
  yes-good c s a w h e =
      let x = (yes c h).good s a w e in
      (c ∷ x.0, ap (λ (y : Bytes). c ∷ y) x.1, x.2, λ v q. on-yes p f g c (x.0 ++ v) h ∙ x.3 v q)

  yes-short : (c : ℕ) (u : Bytes) → p c ≡ true → Short (λ a u. L a (c ∷ u)) u → Short L (c ∷ u)
  yes-short c u h (inl e) = let m = some c h in inr (m.1, m.0, subst (λ (x : Bytes). L m.0 (c ∷ x ++ m.1)) (sym e) m.2)
  yes-short c u h (inr q) = inr q

  yes-fail : (c : ℕ) (s t : Bytes) → p c ≡ true → f c s ≡ bad t → Fail (c ∷ s) t
  unfolding Fail
  yes-fail c s t h e =
      let x = (yes c h).fail s t e in
      (c ∷ x.0, ap (λ (y : Bytes). c ∷ y) x.1, yes-short c x.0 h x.2, λ b r q m. on-yes p f g c (x.0 ++ b ∷ q) h ∙ x.3 b r q m)

  on-good : (s : Bytes) (a : A) (w : Bytes) → on p f g s ≡ got a w → Good s a w
  on-good [] a w e = no-good [] a w z (sym (on-no p f g [] z) ∙ e)
  on-good (c ∷ s) a w e = by_bool (p c) (λ h. yes-good c s a w h (sym (on-yes p f g c s h) ∙ e)) (λ h. no-good (c ∷ s) a w h (sym (on-no p f g (c ∷ s) h) ∙ e))

  on-fail : (s t : Bytes) → on p f g s ≡ bad t → Fail s t
  on-fail [] t e = no-fail [] t z (sym (on-no p f g [] z) ∙ e)
  on-fail (c ∷ s) t e = by_bool (p c) (λ h. yes-fail c s t h (sym (on-yes p f g c s h) ∙ e)) (λ h. no-fail (c ∷ s) t h (sym (on-no p f g (c ∷ s) h) ∙ e))

  pub reads_on : Reads L (on p f g)
  unfolding Good Fail
  reads_on = record { good = on-good; fail = on-fail }

-- left where it is
module _ {A : Type 0} {L : A → Lang} {f g : Bytes → Got A} (p : ℕ → Bool) (yes : Reads L f) (no : Reads L g) where
  when-yes : (s : Bytes) → p (first s) ≡ true → when p f g s ≡ f s
  unfolding when
  when-yes s e = rw e

  when-no : (s : Bytes) → p (first s) ≡ false → when p f g s ≡ g s
  unfolding when
  when-no s e = rw e

  kept : (b : Bool) (u v w s : Bytes) → first v ≡ first w → s ≡ u ++ w → p (first s) ≡ b → p (first (u ++ v)) ≡ b
  kept b u v w s q e h = ap p (first-append u v w q ∙ ap first (sym e)) ∙ h

  pub reads-when : Reads L (when p f g)
  reads-when = record {
    good = λ s a w e.
        by_bool (p (first s))
        (λ h. let x = yes.good s a w (sym (when-yes s h) ∙ e) in (x.0, x.1, x.2, λ v q. when-yes (x.0 ++ v) (kept true x.0 v w s q x.1 h) ∙ x.3 v q))
        (λ h. let x = no.good s a w (sym (when-no s h) ∙ e) in (x.0, x.1, x.2, λ v q. when-no (x.0 ++ v) (kept false x.0 v w s q x.1 h) ∙ x.3 v q));
    fail = λ s t e.
        by_bool (p (first s))
        (λ h. let x = yes.fail s t (sym (when-yes s h) ∙ e) in (x.0, x.1, x.2, λ c r q m. when-yes (x.0 ++ c ∷ q) (kept true x.0 (c ∷ q) t s (sym (ap first m)) x.1 h) ∙ x.3 c r q m))
        (λ h. let x = no.fail s t (sym (when-no s h) ∙ e) in (x.0, x.1, x.2, λ c r q m. when-no (x.0 ++ c ∷ q) (kept false x.0 (c ∷ q) t s (sym (ap first m)) x.1 h) ∙ x.3 c r q m));
  }

-- ---- runs of a class

module _ (p : ℕ → Bool) where
  pub all-many : (u : Bytes) → all p u ≡ true → Many (One p) u
  all-many [] e = none_more [] refl
  all-many (c ∷ u) e = one_more (c ∷ u) (c ∷ []) u refl (c, refl, all_head p c u e) (all-many u (all_tail p c u e))

  pub many-all : (u : Bytes) → Many (One p) u → all p u ≡ true
  unfolding all
  many-all u (none_more s e) = rw e
  many-all u (one_more s a b e m ms) = rw (e, m.1) (all_cons p m.0 b m.2 (many-all b ms))

  pub taken-past : (s : Bytes) → s ≡ taken p s ++ past p s
  unfolding taken past
  taken-past [] = refl
  taken-past (c ∷ s) = by_bool (p c) (λ e. rw e (ap (λ (x : Bytes). c ∷ x) (taken-past s))) (λ e. rw e)

  past-stops : p 256 ≡ false → (s : Bytes) → p (first (past p s)) ≡ false
  unfolding past
  past-stops z [] = z
  past-stops z (c ∷ s) = by_bool (p c) (λ e. rw e (past-stops z s)) (λ e. rw e e)

  reads-run : p 256 ≡ false → Reads (λ (x : Bytes). Many (One p)) (λ t. got (taken p t) (past p t))
  reads-run z = record {
    good = λ s a w e. (
      taken p s,
      taken-past s ∙ ap (λ (x : Bytes). taken p s ++ x) (got-rest e),
      all-many (taken p s) (taken-all p s),
      λ v q.
          let h : p (first v) ≡ false = ap p (q ∙ ap first (sym (got-rest e))) ∙ past-stops z s in
          rw (taken-run p (taken p s) v (taken-all p s) h, past-run p (taken p s) v (taken-all p s) h) (ap (λ (x : Bytes). got x v) (got-what e)),
    );
    fail = λ s t e. absurd (not-got e);
  }

  some-on : p 256 ≡ false → (s : Bytes) → some_of p s ≡ on p (λ c t. under (λ ds. c ∷ ds) (got (taken p t) (past p t))) bad s
  unfolding some_of when on taken past
  some-on z [] = rw z
  some-on z (c ∷ s) = by_bool (p c) (λ e. rw e) (λ e. rw e)

-- the same reader
pub reads_same : {A : Type 0} {L : A → Lang} {R Q : Bytes → Got A} → ((s : Bytes) → R s ≡ Q s) → Reads L Q → Reads L R
reads_same h r = record {
  good = λ s a w e. let x = r.good s a w (sym (h s) ∙ e) in (x.0, x.1, x.2, λ v q. h (x.0 ++ v) ∙ x.3 v q);
  fail = λ s t e. let x = r.fail s t (sym (h s) ∙ e) in (x.0, x.1, x.2, λ c y q m. h (x.0 ++ c ∷ q) ∙ x.3 c y q m);
}

pub reads-some-of : (p : ℕ → Bool) → p 256 ≡ false → Reads (λ (x : Bytes). One p then Many (One p)) (some_of p)
reads-some-of p z =
    reads_same (some-on p z) (reads_on p z
    (λ c h. reads-under (λ ds. c ∷ ds) (λ a u m. (c ∷ [], u, refl, (c, refl, h), m)) (reads-run p z))
    (λ c h. ([], [], (c ∷ [], [], refl, (c, refl, h), none_more [] refl)))
    (reads-bad {L = λ x u. ⊥}) (λ a u h e. absurd e))

-- ---- past a class

module _ {A : Type 0} {L : A → Lang} {R : Bytes → Got A} (p : ℕ → Bool) (z : p 256 ≡ false) (r : Reads L R) (some : Some L) where
  -- what is passed over does not matter
  past-over : (s u v w : Bytes) → first v ≡ first w → past p s ≡ u ++ w → past p ((taken p s ++ u) ++ v) ≡ u ++ v
  past-over s u v w q e =
      rw (append_assoc (taken p s) u v) (past-run p (taken p s) (u ++ v) (taken-all p s) (ap p (first-append u v w q ∙ ap first (sym e)) ∙ past-stops p z s))

  join : (s u w : Bytes) → past p s ≡ u ++ w → s ≡ (taken p s ++ u) ++ w
  join s u w e = taken-past p s ∙ ap (λ (x : Bytes). taken p s ++ x) e ∙ sym (append_assoc (taken p s) u w)

  short : (v u : Bytes) → Many (One p) v → Short L u → Short (λ a. Many (One p) then L a) (v ++ u)
  short v u m (inl e) = inr (some.1, some.0, (v, some.1, ap (λ (x : Bytes). (v ++ x) ++ some.1) e ∙ ap (λ (x : Bytes). x ++ some.1) (append-nil v), m, some.2))
  short v u m (inr q) = inr (q.0, q.1, (v, u ++ q.0, append_assoc v u q.0, m, q.2))

  pub reads-past : Reads (λ a. Many (One p) then L a) (λ s. R (past p s))
  reads-past = record {
    good = λ s a w e.
        let x = r.good (past p s) a w e in (
          taken p s ++ x.0,
          join s x.0 w x.1,
          (taken p s, x.0, refl, all-many p (taken p s) (taken-all p s), x.2),
          λ v q. rw (past-over s x.0 v w q x.1) (x.3 v q),
        );
    fail = λ s t e.
        let x = r.fail (past p s) t e in (
          taken p s ++ x.0,
          join s x.0 t x.1,
          short (taken p s) x.0 (all-many p (taken p s) (taken-all p s)) x.2,
          λ c y q m. rw (past-over s x.0 (c ∷ q) t (sym (ap first m)) x.1) (x.3 c y q m),
        );
  }
