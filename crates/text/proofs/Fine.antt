-- A reader takes so many bytes at least, and what it leaves does not matter to it: so a part of a text, read alone, gives the same.
-- One law for each combinator; a reader's own is one line (crates/json/proofs/Fine.antt).
use mathlib.Core.Path.{◌≡◌, refl, sym, ap, ◌∙◌}
use mathlib.Core.Bool.{Bool, false}
use mathlib.Core.List.{[], ◌∷◌, ◌++◌, append-nil}
use Prim.Native.Nat.{ℕ, zero, suc, ◌+◌, ◌-◌, ◌≤◌, ◌<◌}
use native.Mathlib.Omega.{arith}
use lib.ListN.{length, drop, take, length-append, take-append-drop}
use lib.Seq.{drop-drop}
use lib.Dec.{eqb}
use Rattle.text.specs.Bytes.{Bytes, is}
use Rattle.text.specs.Reader.{Got, got, bad, bind, under, first, on, when, Step, more, last, after, turns, loop, taken, past, one, some_of, run_of}
use Rattle.text.proofs.Cases.{by_bool}
pub use Rattle.text.proofs.Readers.{not-bad, got-rest, got-what, bind_inv, under-inv}
use Rattle.text.proofs.Readers as readers
use Rattle.text.proofs.Readers.{past-less, takes-on}

-- ---- a reader takes n bytes at least, and what it leaves does not matter to it
pub record Fine {A : Type 0} (n : ℕ) (R : Bytes → Got A) : Type 0 where
  pub less : (s : Bytes) (a : A) (w : Bytes) → R s ≡ got a w → n + length w ≤ length s
  pub cut : (u z : Bytes) (a : A) (w : Bytes) → R (u ++ z) ≡ got a w → length z ≤ length w → (t : Bytes) × (w ≡ t ++ z) × (R u ≡ got a t)

pub fine-takes : {A : Type 0} {n : ℕ} {R : Bytes → Got A} → Fine n R → readers.Takes n R
fine-takes f = record { less = f.less }

past-none : (p : ℕ → Bool) (s : Bytes) → length s ≤ length (past p s) → past p s ≡ s
unfolding past
past-none p [] h = refl
past-none p (c ∷ s) h = by_bool (p c) (λ e. absurd (omega (arith, past-less p s, rw e at h))) (λ e. rw e)

module _ {A : Type 0} where
  pub fine-got : (a : A) → Fine 0 (got a)
  fine-got a = record {
    less = λ s b w e. rw (got-rest e) (omega arith);
    cut = λ u z b w e l. (u, sym (got-rest e), ap (λ x. got x u) (got-what e));
  }

  pub fine-bad : (n : ℕ) → Fine {A = A} n bad
  fine-bad n = record { less = λ s b w e. absurd (not-bad e); cut = λ u z b w e l. absurd (not-bad e) }

  pub fine-weak : {R : Bytes → Got A} → Fine 1 R → Fine 0 R
  fine-weak f = record { less = λ s b w e. omega (arith, f.less s b w e); cut = f.cut }

  pub fine-same : {n : ℕ} {R Q : Bytes → Got A} → ((s : Bytes) → R s ≡ Q s) → Fine n Q → Fine n R
  fine-same q f = record {
    less = λ s b w e. f.less s b w (sym (q s) ∙ e);
    cut = λ u z b w e l. let c = f.cut u z b w (sym (q (u ++ z)) ∙ e) l in (c.0, c.1, q u ∙ c.2);
  }

  pub fine-under : {B : Type 0} {n : ℕ} {R : Bytes → Got A} (f : A → B) → Fine n R → Fine n (λ s. under f (R s))
  fine-under {B} {n} {R} f h = record {
    less = λ s b w e. h.less s _ w (under-inv f (R s) e).1;
    cut = λ u z b w e l. let i = under-inv f (R (u ++ z)) e in let c = h.cut u z _ w i.1 l in (c.0, c.1, rw c.2 (ap (λ x. got x c.0) i.2));
  }

  pub fine_bind : {B : Type 0} {m n : ℕ} {R : Bytes → Got A} {K : A → Bytes → Got B} → Fine m R → ((a : A) → Fine n (K a)) → Fine (m + n) (λ s. bind (R s) K)
  fine_bind {B} {m} {n} {R} {K} h k = record {
    less = λ s b w e. let i = bind_inv (R s) K e in omega (arith, h.less s _ _ i.2, (k i.0).less _ _ _ i.3);
    cut = λ u z b w e l.
        let i = bind_inv (R (u ++ z)) K e in
        let c = h.cut u z _ _ i.2 (omega (arith, (k i.0).less _ _ _ i.3)) in
        let d = (k i.0).cut c.0 z b w (rw c.1 at i.3) l in
        (d.0, d.1, rw c.2 d.2);
  }

  -- a run of bytes before
  past-cut : {n : ℕ} {R : Bytes → Got A} (p : ℕ → Bool) → Fine n R → (u z : Bytes) (a : A) (w : Bytes) → R (past p (u ++ z)) ≡ got a w → length z ≤ length w → (t : Bytes) × (w ≡ t ++ z) × (R (past p u) ≡ got a t)
  unfolding past
  past-cut {n} {R} p f [] z a w e l = f.cut [] z a w (rw (past-none p z (omega (arith, f.less _ _ _ e))) at e) l
  past-cut {n} {R} p f (c ∷ u) z a w e l = by_bool (p c) (λ q. rw q (past-cut p f u z a w (rw q at e) l)) (λ q. rw q (f.cut (c ∷ u) z a w (rw q at e) l))

  pub fine-past : {n : ℕ} {R : Bytes → Got A} (p : ℕ → Bool) → Fine n R → Fine n (λ s. R (past p s))
  fine-past p f = record {
    less = λ s b w e. omega (arith, f.less _ _ _ e, past-less p s);
    cut = past-cut p f;
  }

  -- by the first byte
  on-cut : {n : ℕ} {f : ℕ → Bytes → Got A} {g : Bytes → Got A} (p : ℕ → Bool) → p 256 ≡ false → ((c : ℕ) → Fine 0 (f c)) → Fine n g
      → (u z : Bytes) (a : A) (w : Bytes) → on p f g (u ++ z) ≡ got a w → length z ≤ length w → (t : Bytes) × (w ≡ t ++ z) × (on p f g u ≡ got a t)
  unfolding on
  on-cut p y h k [] [] a w e l = (w, sym (append-nil w), e)
  on-cut p y h k [] (c ∷ z) a w e l = by_bool (p c) (λ q. absurd (omega (arith, (h c).less z a w (rw q at e)))) (λ q. rw y (k.cut [] (c ∷ z) a w (rw q at e) l))
  on-cut p y h k (c ∷ u) z a w e l = by_bool (p c) (λ q. rw q ((h c).cut u z a w (rw q at e) l)) (λ q. rw q (k.cut (c ∷ u) z a w (rw q at e) l))

  pub fine-on : {n : ℕ} {f : ℕ → Bytes → Got A} {g : Bytes → Got A} (p : ℕ → Bool) → p 256 ≡ false → n ≤ 1 → ((c : ℕ) → Fine 0 (f c)) → Fine n g → Fine n (on p f g)
  fine-on p z l h k = record { less = (takes-on p z l (λ c. fine-takes (h c)) (fine-takes k)).less; cut = on-cut p z h k }

  when-less : {n : ℕ} {f g : Bytes → Got A} (p : ℕ → Bool) → n ≤ 1 → Fine 1 f → Fine n g → (s : Bytes) (a : A) (w : Bytes) → when p f g s ≡ got a w → n + length w ≤ length s
  unfolding when
  when-less p l h k s a w e = by_bool (p (first s)) (λ q. omega (arith, h.less s a w (rw q at e))) (λ q. k.less s a w (rw q at e))

  when-cut : {n : ℕ} {f g : Bytes → Got A} (p : ℕ → Bool) → p 256 ≡ false → Fine 1 f → Fine n g
      → (u z : Bytes) (a : A) (w : Bytes) → when p f g (u ++ z) ≡ got a w → length z ≤ length w → (t : Bytes) × (w ≡ t ++ z) × (when p f g u ≡ got a t)
  unfolding when
  when-cut p y h k [] [] a w e l = (w, sym (append-nil w), e)
  when-cut p y h k [] (c ∷ z) a w e l = by_bool (p c) (λ q. absurd (omega (arith, h.less (c ∷ z) a w (rw q at e)))) (λ q. rw y (k.cut [] (c ∷ z) a w (rw q at e) l))
  when-cut p y h k (c ∷ u) z a w e l = by_bool (p c) (λ q. rw q (h.cut (c ∷ u) z a w (rw q at e) l)) (λ q. rw q (k.cut (c ∷ u) z a w (rw q at e) l))

  pub fine-when : {n : ℕ} {f g : Bytes → Got A} (p : ℕ → Bool) → p 256 ≡ false → n ≤ 1 → Fine 1 f → Fine n g → Fine n (when p f g)
  fine-when p z l h k = record { less = when-less p l h k; cut = when-cut p z h k }

-- ---- loops
module _ {B : Type 0} (f : Bytes → Got (Step B)) (h : Fine 1 f) where
  fine-after : (k : Bytes → Got B) → Fine 0 k → (w : Step B) → Fine 0 (λ t. after w t k)
  fine-after k q (more g) = fine-under g q
  fine-after k q (last b) = fine-got b

  pub fine-turns : (n : ℕ) → Fine 1 (turns f n)
  unfolding turns
  fine-turns zero = fine-bad 1
  fine-turns (suc n) = fine_bind h (fine-after (turns f n) (fine-weak (fine-turns n)))

  -- any number of turns that is enough gives the same
  enough-after : (n m : ℕ) (w : Step B) (t : Bytes) (b : B) (v : Bytes) → ((b : B) → turns f n t ≡ got b v → turns f m t ≡ got b v) → after w t (turns f n) ≡ got b v → after w t (turns f m) ≡ got b v
  enough-after n m (more g) t b v r e = let i = under-inv g (turns f n t) e in rw (r i.0 i.1) (ap (λ x. got x v) i.2)
  enough-after n m (last x) t b v r e = e

  pub enough : (n m : ℕ) (s : Bytes) (b : B) (v : Bytes) → turns f n s ≡ got b v → length s < m → turns f m s ≡ got b v
  unfolding turns
  enough zero m s b v e l = absurd (not-bad e)
  enough (suc n) zero s b v e l = absurd (omega arith)
  enough (suc n) (suc m) s b v e l =
      let i = bind_inv (f s) (λ w t. after w t (turns f n)) e in
      rw i.2 (enough-after n m i.0 i.1 b v (λ b' q. enough n m i.1 b' v q (omega (arith, h.less s _ _ i.2))) i.3)

  pub fine-loop : Fine 1 (loop f)
  unfolding loop
  fine-loop = record {
    less = λ s b w e. (fine-turns (suc (length s))).less s b w e;
    cut = λ u z b w e l.
        let c = (fine-turns (suc (length (u ++ z)))).cut u z b w e l in
        (c.0, c.1, enough (suc (length (u ++ z))) (suc (length u)) u b c.0 c.2 (omega arith));
  }

-- ---- a loop is its first turn, and the loop again: for this it is enough that each turn takes a byte
abbrev pub Takes : {A : Type 0} → (Bytes → Got A) → Type 0
Takes {A} R = (s : Bytes) (a : A) (w : Bytes) → R s ≡ got a w → 1 + length w ≤ length s

module _ {B : Type 0} (f : Bytes → Got (Step B)) (takes : Takes f) where
  moves : readers.Moves f
  moves s g t e = omega (arith, takes s (more g) t e)

  pub loop-more : (s t : Bytes) (g : B → B) → f s ≡ got (more g) t → loop f s ≡ under g (loop f t)
  loop-more = readers.loop-more f moves

  pub loop-last : (s t : Bytes) (b : B) → f s ≡ got (last b) t → loop f s ≡ got b t
  loop-last = readers.loop-last f moves

  pub loop-bad : (s t : Bytes) → f s ≡ bad t → loop f s ≡ bad t
  loop-bad = readers.loop-bad f moves

  -- a loop that read something, by its first turn
  pub loop-split : (s : Bytes) (b : B) (t : Bytes) → loop f s ≡ got b t → (w : Step B) × (v : Bytes) × (f s ≡ got w v) × (after w v (loop f) ≡ got b t)
  loop-split s b t e = by (f s) refl
    where
      by : (x : Got (Step B)) → f s ≡ x → (w : Step B) × (v : Bytes) × (f s ≡ got w v) × (after w v (loop f) ≡ got b t)
      by (got (more g) v) q = (more g, v, q, sym (loop-more s v g q) ∙ e)
      by (got (last c) v) q = (last c, v, q, sym (loop-last s v c q) ∙ e)
      by (bad v) q = absurd (not-bad (sym (loop-bad s v q) ∙ e))

-- ---- runs and single bytes
taken_none : (p : ℕ → Bool) (s : Bytes) → length s ≤ length (past p s) → taken p s ≡ []
unfolding past taken
taken_none p [] h = refl
taken_none p (c ∷ s) h = by_bool (p c) (λ e. absurd (omega (arith, past-less p s, rw e at h))) (λ e. rw e)

runs-both : (p : ℕ → Bool) (u z : Bytes) → length z ≤ length (past p (u ++ z)) → (past p (u ++ z) ≡ past p u ++ z) × (taken p (u ++ z) ≡ taken p u)
unfolding past taken
runs-both p [] z l = (past-none p z l, taken_none p z l)
runs-both p (c ∷ u) z l =
    by_bool (p c)
    (λ q. let h = runs-both p u z (rw q at l) in (rw q h.0, rw q (ap (λ x. c ∷ x) h.1)))
    (λ q. (rw q, rw q))

runs-cut : (p : ℕ → Bool) (u z : Bytes) (a : Bytes) (w : Bytes) → got (taken p (u ++ z)) (past p (u ++ z)) ≡ got a w → length z ≤ length w → (t : Bytes) × (w ≡ t ++ z) × (got (taken p u) (past p u) ≡ got a t)
runs-cut p u z a w e l =
    let h = runs-both p u z (rw (got-rest e) l) in
    (past p u, sym (got-rest e) ∙ h.0, ap (λ x. got x (past p u)) (sym h.1 ∙ got-what e))

pub runs-fine : (p : ℕ → Bool) → Fine 0 (λ t. got (taken p t) (past p t))
runs-fine p = record {
  less = λ s b w e. rw (← got-rest e) (omega (arith, past-less p s));
  cut = runs-cut p;
}

some-on : (p : ℕ → Bool) → p 256 ≡ false → (s : Bytes) → when p (λ t. got (taken p t) (past p t)) bad s ≡ on p (λ c t. under (λ ds. c ∷ ds) (got (taken p t) (past p t))) bad s
unfolding when on taken past
some-on p z [] = rw z
some-on p z (c ∷ s) = by_bool (p c) (λ e. rw e) (λ e. rw e)

pub one-fine : (b : ℕ) → eqb 256 b ≡ false → Fine 1 (one b)
unfolding one
one-fine b z = fine-on (is b) z (omega arith) fine-got (fine-bad 1)

pub some-fine : (p : ℕ → Bool) → p 256 ≡ false → Fine 1 (some_of p)
unfolding some_of
some-fine p z = fine-same (some-on p z) (fine-on p z (omega arith) (λ c. fine-under (λ ds. c ∷ ds) (runs-fine p)) (fine-bad 1))

pub run-fine : (p : ℕ → Bool) → Fine 0 (run_of p)
unfolding run_of
run-fine p = runs-fine p

-- ---- THE CUT: what stands from a to e, read alone
none_left : (t z : Bytes) → z ≡ t ++ z → t ≡ []
none_left [] z e = refl
none_left (c ∷ t) z e = let h = rw length-append at (ap length e) in absurd (omega arith)

pub alone : {A : Type 0} {n : ℕ} {R : Bytes → Got A} → Fine n R → (s : Bytes) (a e : ℕ) (x : A) → a ≤ e → e ≤ length s → R (drop a s) ≡ got x (drop e s) → R (take (e - a) (drop a s)) ≡ got x []
alone {A} {n} {R} f s a e x l h q =
    let r : a + (e - a) ≡ e = omega arith in
    let m : drop (e - a) (drop a s) ≡ drop e s = drop-drop (e - a) a s ∙ ap (λ (i : ℕ). drop i s) r in
    let c = f.cut (take (e - a) (drop a s)) (drop e s) x (drop e s) (ap R (ap (λ l. take (e - a) (drop a s) ++ l) (sym m) ∙ take-append-drop (e - a) (drop a s)) ∙ q) (omega arith) in
    c.2 ∙ ap (got x) (none_left c.0 (drop e s) c.1)
