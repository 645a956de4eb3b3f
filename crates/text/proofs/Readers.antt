-- Readers: what is known where one gave something, how much it takes, runs of a class, and turns of a loop.
use mathlib.Core.Path.{◌≡◌, refl, sym, ap, subst}
use mathlib.Core.Bool.{Bool, true, false}
use mathlib.Core.List.{[], ◌∷◌, ◌++◌, tail}
use mathlib.Core.Logic.{◌⊎◌, inl, inr}
use Prim.Native.Nat.{ℕ, zero, suc, ◌+◌, ◌≤◌, ◌<◌}
use native.Mathlib.Omega.{arith}
use lib.ListN.{length}
use lib.Dec.{eqb}
use Rattle.text.specs.Bytes.{Bytes, is, all}
use Rattle.text.specs.Reader.{Got, got, bad, bind, under, first, on, when, Step, more, last, after, turns, loop, taken, past, one, some_of, run_of}
use Rattle.text.proofs.Cases.{by_bool}
use Rattle.text.proofs.Lists.{all_head, all_tail, all_cons}

-- ---- what is known where a reader gave something

pub not-bad : {A : Type 0} {s : Bytes} {a : A} {w : Bytes} → bad s ≡ got a w → ⊥
not-bad e = let r : ◌≡◌ {A = ℕ} 0 1 = cc in omega arith

pub not_last : {B : Type 0} {b : B} {g : B → B} {s t : Bytes} → got (last b) s ≡ got (more g) t → ⊥
not_last e = let r : ◌≡◌ {A = ℕ} 0 1 = cc in omega arith

pub got-rest : {A : Type 0} {a b : A} {s w : Bytes} → got a s ≡ got b w → s ≡ w
got-rest e = cc

pub got-what : {A : Type 0} {a b : A} {s w : Bytes} → got a s ≡ got b w → a ≡ b
got-what e = cc

pub bind_inv : {A B : Type 0} (x : Got A) (k : A → Bytes → Got B) {b : B} {w : Bytes} → bind x k ≡ got b w → (a : A) × (t : Bytes) × (x ≡ got a t) × (k a t ≡ got b w)
bind_inv (got a t) k e = (a, t, refl, e)
bind_inv (bad t) k e = absurd (not-bad e)

pub under-inv : {A B : Type 0} (f : A → B) (x : Got A) {b : B} {w : Bytes} → under f x ≡ got b w → (a : A) × (x ≡ got a w) × (f a ≡ b)
under-inv f (got a t) e = (a, ap (got a) (got-rest e), got-what e)
under-inv f (bad t) e = absurd (not-bad e)

-- which way a test went
pub on-inv : {A : Type 0} (p : ℕ → Bool) (f : ℕ → Bytes → Got A) (g : Bytes → Got A) (s : Bytes) {x : Got A} → on p f g s ≡ x
    → ((p (first s) ≡ true) × (f (first s) (tail s) ≡ x)) ⊎ ((p (first s) ≡ false) × (g s ≡ x))
unfolding on
on-inv p f g s e = by_bool (p (first s)) (λ q. inl (q, rw q at e)) (λ q. inr (q, rw q at e))

pub when-inv : {A : Type 0} (p : ℕ → Bool) (f g : Bytes → Got A) (s : Bytes) {x : Got A} → when p f g s ≡ x
    → ((p (first s) ≡ true) × (f s ≡ x)) ⊎ ((p (first s) ≡ false) × (g s ≡ x))
unfolding when
when-inv p f g s e = by_bool (p (first s)) (λ q. inl (q, rw q at e)) (λ q. inr (q, rw q at e))

-- ---- a reader takes n bytes at least

pub record Takes {A : Type 0} (n : ℕ) (R : Bytes → Got A) : Type 0 where
  pub less : (s : Bytes) (a : A) (w : Bytes) → R s ≡ got a w → n + length w ≤ length s

pub past-less : (p : ℕ → Bool) (s : Bytes) → length (past p s) ≤ length s
unfolding past
past-less p [] = omega arith
past-less p (c ∷ s) = by_bool (p c) (λ e. rw e (omega (arith, past-less p s))) (λ e. rw e (omega arith))

module _ {A : Type 0} where
  pub takes-got : (a : A) → Takes 0 (got a)
  takes-got a = record { less = λ s b w e. rw (got-rest e) (omega arith) }

  pub takes-bad : (n : ℕ) → Takes {A = A} n bad
  takes-bad n = record { less = λ s b w e. absurd (not-bad e) }

  pub takes-less : {R : Bytes → Got A} → Takes 1 R → Takes 0 R
  takes-less f = record { less = λ s b w e. omega (arith, f.less s b w e) }

  on-less : {n : ℕ} {f : ℕ → Bytes → Got A} {g : Bytes → Got A} (p : ℕ → Bool) → p 256 ≡ false → n ≤ 1 → ((c : ℕ) → Takes 0 (f c)) → Takes n g
      → (s : Bytes) (a : A) (w : Bytes) → on p f g s ≡ got a w → n + length w ≤ length s
  unfolding on
  on-less p z l h k [] a w e = k.less [] a w (rw z at e)
  on-less p z l h k (c ∷ s) a w e = by_bool (p c) (λ q. omega (arith, (h c).less s a w (rw q at e))) (λ q. k.less (c ∷ s) a w (rw q at e))

  pub takes-on : {n : ℕ} {f : ℕ → Bytes → Got A} {g : Bytes → Got A} (p : ℕ → Bool) → p 256 ≡ false → n ≤ 1 → ((c : ℕ) → Takes 0 (f c)) → Takes n g → Takes n (on p f g)
  takes-on p z l h k = record { less = on-less p z l h k }

  pub takes-under : {B : Type 0} {n : ℕ} {R : Bytes → Got A} (f : A → B) → Takes n R → Takes n (λ s. under f (R s))
  takes-under {B} {n} {R} f h = record { less = λ s b w e. h.less s _ w (under-inv f (R s) e).1 }

  pub takes-bind : {B : Type 0} {m n : ℕ} {R : Bytes → Got A} {K : A → Bytes → Got B} → Takes m R → ((a : A) → Takes n (K a)) → Takes (m + n) (λ s. bind (R s) K)
  takes-bind {B} {m} {n} {R} {K} h k =
      record { less = λ s b w e. let i = bind_inv (R s) K e in omega (arith, h.less s _ _ i.2, (k i.0).less _ _ _ i.3) }

pub takes_one : (b : ℕ) → eqb 256 b ≡ false → Takes 1 (one b)
unfolding one
takes_one b z = takes-on (is b) z (omega arith) takes-got (takes-bad 1)

pub takes-run-of : (p : ℕ → Bool) → Takes 0 (run_of p)
unfolding run_of
takes-run-of p = record { less = λ s a w e. omega (arith, past-less p s, ap length (got-rest e)) }

some-less : (p : ℕ → Bool) → p 256 ≡ false → (s a w : Bytes) → some_of p s ≡ got a w → 1 + length w ≤ length s
unfolding some_of when past
some-less p z [] a w e = absurd (not-bad (rw z at e))
some-less p z (c ∷ s) a w e =
    by_bool (p c) (λ q. let r = rw q at e in omega (arith, past-less p s, ap length (got-rest r))) (λ q. absurd (not-bad (rw q at e)))

pub takes-some-of : (p : ℕ → Bool) → p 256 ≡ false → Takes 1 (some_of p)
takes-some-of p z = record { less = some-less p z }

-- ---- turns

-- every turn but the last takes one byte at least
abbrev pub Moves : {B : Type 0} → (Bytes → Got (Step B)) → Type 0
Moves {B} f = (s : Bytes) (g : B → B) (t : Bytes) → f s ≡ got (more g) t → length t < length s

module _ {B : Type 0} (f : Bytes → Got (Step B)) where
  pub takes-moves : Takes 1 f → Moves f
  takes-moves h s g t e = omega (arith, h.less s (more g) t e)

  enough-after : (n m : ℕ) (s : Bytes) (w : Step B) (t : Bytes) (b : B) (v : Bytes) → Moves f → f s ≡ got w t
      → (length t < length s → (b : B) → turns f n t ≡ got b v → turns f m t ≡ got b v)
      → after w t (turns f n) ≡ got b v → after w t (turns f m) ≡ got b v
  enough-after n m s (more g) t b v h q r e = let i = under-inv g (turns f n t) e in rw (r (h s g t q) i.0 i.1) (ap (λ x. got x v) i.2)
  enough-after n m s (last x) t b v h q r e = e

  -- any number of turns that is enough gives the same
  pub enough : Moves f → (n m : ℕ) (s : Bytes) (b : B) (v : Bytes) → turns f n s ≡ got b v → length s < m → turns f m s ≡ got b v
  unfolding turns
  enough h zero m s b v e l = absurd (not-bad e)
  enough h (suc n) zero s b v e l = absurd (omega arith)
  enough h (suc n) (suc m) s b v e l =
      let i = bind_inv (f s) (λ w t. after w t (turns f n)) e in
      rw i.2 (enough-after n m s i.0 i.1 b v h i.2 (λ k b' q. enough h n m i.1 b' v q (omega arith)) i.3)

  -- so turns that were counted otherwise are the loop's
  pub loop-enough : Moves f → (n : ℕ) (s : Bytes) (b : B) (v : Bytes) → turns f n s ≡ got b v → loop f s ≡ got b v
  unfolding loop
  loop-enough h n s b v e = enough h n (suc (length s)) s b v e (omega arith)

  takes-after : (k : Bytes → Got B) → Takes 0 k → (w : Step B) → Takes 0 (λ t. after w t k)
  takes-after k q (more g) = takes-under g q
  takes-after k q (last b) = takes-got b

  pub takes-turns : Takes 0 f → (n : ℕ) → Takes 0 (turns f n)
  unfolding turns
  takes-turns h zero = takes-bad 0
  takes-turns h (suc n) = takes-bind h (takes-after (turns f n) (takes-turns h n))

  pub takes-loop-none : Takes 0 f → Takes 0 (loop f)
  unfolding loop
  takes-loop-none h = record { less = λ s b w e. (takes-turns h (suc (length s))).less s b w e }

-- ---- a loop is its first turn, and the loop again
module _ {B : Type 0} (f : Bytes → Got (Step B)) (moves : Moves f) where
  enough-next : (n m : ℕ) (w : Got (Step B)) → ((g : B → B) (t : Bytes) → w ≡ got (more g) t → turns f n t ≡ turns f m t)
      → bind w (λ v t. after v t (turns f n)) ≡ bind w (λ v t. after v t (turns f m))
  enough-next n m (got (more g) t) r = ap (under g) (r g t refl)
  enough-next n m (got (last b) t) r = refl
  enough-next n m (bad t) r = refl

  enough-same : (n m : ℕ) (s : Bytes) → length s < n → length s < m → turns f n s ≡ turns f m s
  unfolding turns
  enough-same zero m s k l = absurd (omega arith)
  enough-same (suc n) zero s k l = absurd (omega arith)
  enough-same (suc n) (suc m) s k l =
      enough-next n m (f s) (λ g t e. enough-same n m t (omega (arith, moves s g t e)) (omega (arith, moves s g t e)))

  pub loop-more : (s t : Bytes) (g : B → B) → f s ≡ got (more g) t → loop f s ≡ under g (loop f t)
  unfolding loop turns
  loop-more s t g e = rw e (ap (under g) (enough-same (length s) (suc (length t)) t (omega (arith, moves s g t e)) (omega arith)))

  pub loop-last : (s t : Bytes) (b : B) → f s ≡ got (last b) t → loop f s ≡ got b t
  unfolding loop turns
  loop-last s t b e = rw e

  pub loop-bad : (s t : Bytes) → f s ≡ bad t → loop f s ≡ bad t
  unfolding loop turns
  loop-bad s t e = rw e

-- the last turn gives it, and every other turn keeps it
abbrev pub Keeps : {B : Type 0} → (B → Type 0) → Step B → Type 0
Keeps {B} P (more g) = (b : B) → P b → P (g b)
Keeps {B} P (last b) = P b

-- then it holds of what is read
module _ {B : Type 0} (f : Bytes → Got (Step B)) (P : B → Type 0) (keeps : (s : Bytes) (w : Step B) (t : Bytes) → f s ≡ got w t → Keeps P w) where
  after-keeps : (n : ℕ) (w : Step B) (t : Bytes) (b : B) (v : Bytes) → Keeps P w → ((c : B) → turns f n t ≡ got c v → P c) → after w t (turns f n) ≡ got b v → P b
  after-keeps n (more g) t b v k r e = let i = under-inv g (turns f n t) e in subst P i.2 (k i.0 (r i.0 i.1))
  after-keeps n (last x) t b v k r e = subst P (got-what e) k

  turns-keep : (n : ℕ) (s : Bytes) (b : B) (v : Bytes) → turns f n s ≡ got b v → P b
  unfolding turns
  turns-keep zero s b v e = absurd (not-bad e)
  turns-keep (suc n) s b v e =
      let i = bind_inv (f s) (λ w t. after w t (turns f n)) e in
      after-keeps n i.0 i.1 b v (keeps s i.0 i.1 i.2) (λ c q. turns-keep n i.1 c v q) i.3

  pub loop-keeps : (s : Bytes) (b : B) (v : Bytes) → loop f s ≡ got b v → P b
  unfolding loop
  loop-keeps s b v e = turns-keep (suc (length s)) s b v e

-- one turn more, or the last
pub turns_more : {B : Type 0} (f : Bytes → Got (Step B)) (n : ℕ) (s t : Bytes) (g : B → B) (b : B) (v : Bytes) → f s ≡ got (more g) t → turns f n t ≡ got b v → turns f (suc n) s ≡ got (g b) v
unfolding turns
turns_more f n s t g b v e h = rw (e, h)

pub turns-last : {B : Type 0} (f : Bytes → Got (Step B)) (n : ℕ) (s t : Bytes) (b : B) → f s ≡ got (last b) t → turns f (suc n) s ≡ got b t
unfolding turns
turns-last f n s t b e = rw e

-- ---- runs of a class, before what is not of it

module _ (p : ℕ → Bool) where
  stops-taken : (t : Bytes) → p (first t) ≡ false → taken p t ≡ []
  unfolding taken
  stops-taken [] e = refl
  stops-taken (c ∷ t) e = rw e

  stops-past : (t : Bytes) → p (first t) ≡ false → past p t ≡ t
  unfolding past
  stops-past [] e = refl
  stops-past (c ∷ t) e = rw e

  pub taken-run : (v t : Bytes) → all p v ≡ true → p (first t) ≡ false → taken p (v ++ t) ≡ v
  unfolding taken
  taken-run [] t h e = stops-taken t e
  taken-run (c ∷ v) t h e = rw (all_head p c v h, taken-run v t (all_tail p c v h) e)

  pub past-run : (v t : Bytes) → all p v ≡ true → p (first t) ≡ false → past p (v ++ t) ≡ t
  unfolding past
  past-run [] t h e = stops-past t e
  past-run (c ∷ v) t h e = rw (all_head p c v h, past-run v t (all_tail p c v h) e)

  pub run-of-run : (v t : Bytes) → all p v ≡ true → p (first t) ≡ false → run_of p (v ++ t) ≡ got v t
  unfolding run_of
  run-of-run v t h e = rw (taken-run v t h e, past-run v t h e)

  -- one at least
  pub some-of-run : (c : ℕ) (v t : Bytes) → all p (c ∷ v) ≡ true → p (first t) ≡ false → some_of p (c ∷ (v ++ t)) ≡ got (c ∷ v) t
  unfolding some_of when run_of
  some-of-run c v t h e = rw (all_head p c v h) (run-of-run (c ∷ v) t h e)

-- what was read by a class passes its test, and is not empty
pub taken-all : (p : ℕ → Bool) (s : Bytes) → all p (taken p s) ≡ true
unfolding taken all
taken-all p [] = refl
taken-all p (c ∷ s) = by_bool (p c) (λ e. rw (e, e, taken-all p s)) (λ e. rw e)

pub some-of-inv : (p : ℕ → Bool) → p 256 ≡ false → (s v t : Bytes) → some_of p s ≡ got v t → (c : ℕ) × (u : Bytes) × (v ≡ c ∷ u) × (all p (c ∷ u) ≡ true) × (c ≡ first s)
unfolding some_of when taken
some-of-inv p z [] v t e = absurd (not-bad (rw z at e))
some-of-inv p z (c ∷ s) v t e =
    by_bool (p c) (λ q. let r = rw q at e in (c, taken p s, sym (got-what r), all_cons p c (taken p s) q (taken-all p s), refl)) (λ q. absurd (not-bad (rw q at e)))
