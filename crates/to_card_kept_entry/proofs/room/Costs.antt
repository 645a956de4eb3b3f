-- What a reader gives costs no more than the bytes that it takes. `C a k` says that k bytes pay for a; some were taken before.
use mathlib.Core.Path.{◌≡◌, ap, subst}
use mathlib.Core.Bool.{Bool, true, false}
use mathlib.Core.List.{[], ◌∷◌}
use mathlib.Core.Logic.{⊎_elim}
use Prim.Native.Nat.{ℕ, zero, suc, ◌+◌, ◌≤◌}
use native.Mathlib.Omega.{arith}
use lib.ListN.{length}
use Rattle.text.specs.Bytes.{Bytes}
use Rattle.text.specs.Reader.{Got, got, bad, bind, under, on, when, Step, more, last, after, turns, loop}
use Rattle.text.proofs.Cases.{by_bool}
use Rattle.text.proofs.Readers.{not-bad, got-what, got-rest, bind_inv, under-inv, when-inv, Takes, past-less}
use Rattle.json_text.specs.Grammar.{is_space}
use Rattle.json_text.specs.Syntax.{skip}

abbrev pub Pays : {A : Type 0} → (A → ℕ → Type 0) → ℕ → (Bytes → Got A) → Type 0
Pays {A} C c R = (s : Bytes) (a : A) (w : Bytes) → R s ≡ got a w → (k : ℕ) × C a k × (k + length w ≤ c + length s)

-- by a number
abbrev pub Within : {A : Type 0} → (A → ℕ) → A → ℕ → Type 0
Within μ a k = μ a ≤ k

-- no matter what
abbrev pub Any : {A : Type 0} → A → ℕ → Type 0
Any a k = Unit {0}

module _ {A : Type 0} (C : A → ℕ → Type 0) where
  pub pays-got : (c : ℕ) (a : A) → C a c → Pays C c (got a)
  pays-got c a h s b w e = (c, subst (λ x. C x c) (got-what e) h, omega (arith, ap length (got-rest e)))

  pub pays-bad : (c : ℕ) → Pays C c bad
  pays-bad c s a w e = absurd (not-bad e)

  pub pays-on : (c : ℕ) {f : ℕ → Bytes → Got A} {g : Bytes → Got A} (p : ℕ → Bool) → p 256 ≡ false → ((x : ℕ) → p x ≡ true → Pays C (suc c) (f x)) → Pays C c g → Pays C c (on p f g)
  unfolding on
  pays-on c p z h k [] a w e = k [] a w (rw z at e)
  pays-on c p z h k (x ∷ s) a w e =
      by_bool (p x)
      (λ q. let i = h x q s a w (rw q at e) in (i.0, i.1, omega (arith, i.2)))
      (λ q. k (x ∷ s) a w (rw q at e))

  pub pays-when : (c : ℕ) {f g : Bytes → Got A} (p : ℕ → Bool) → Pays C c f → Pays C c g → Pays C c (when p f g)
  pays-when c {f} {g} p h k s a w e = ⊎_elim (λ q. h s a w q.1) (λ q. k s a w q.1) (when-inv p f g s e)

  pub pays-skip : (c : ℕ) {R : Bytes → Got A} → Pays C c R → Pays C c (λ s. R (skip s))
  unfolding skip
  pays-skip c h s a w e = let i = h (skip s) a w e in (i.0, i.1, omega (arith, i.2, past-less is_space s))

  -- more was taken before
  pub pays-lift : (c d : ℕ) {R : Bytes → Got A} → c ≤ d → Pays C c R → Pays C d R
  pays-lift c d l h s a w e = let i = h s a w e in (i.0, i.1, omega (arith, i.2))

  module _ {B : Type 0} (D : B → ℕ → Type 0) (c : ℕ) where
    pub pays-under : {R : Bytes → Got A} (f : A → B) → ((a : A) (k : ℕ) → C a k → D (f a) k) → Pays C c R → Pays D c (λ s. under f (R s))
    pays-under {R} f h r s b w e =
        let u = under-inv f (R s) e in
        let i = r s u.0 w u.1 in
        (i.0, subst (λ x. D x i.0) u.2 (h u.0 i.0 i.1), i.2)

    -- one byte more pays for what is put before it
    pub pays-under-one : {R : Bytes → Got A} (f : A → B) → ((a : A) (k : ℕ) → C a k → D (f a) (suc k)) → Pays C c R → Pays D (suc c) (λ s. under f (R s))
    pays-under-one {R} f h r s b w e =
        let u = under-inv f (R s) e in
        let i = r s u.0 w u.1 in
        (suc i.0, subst (λ x. D x (suc i.0)) u.2 (h u.0 i.0 i.1), omega (arith, i.2))

    pub pays-bind : {R : Bytes → Got A} {K : A → Bytes → Got B} → Pays C c R → ((a : A) (k : ℕ) → C a k → Pays D k (K a)) → Pays D c (λ s. bind (R s) K)
    pays-bind {R} {K} h r s b w e =
        let u = bind_inv (R s) K e in
        let i = h s u.0 u.1 u.2 in
        let j = r u.0 i.0 i.1 u.1 b w u.3 in
        (j.0, j.1, omega (arith, i.2, j.2))

-- a reader that takes n bytes at least
pub pays-takes : {A : Type 0} (n c : ℕ) {R : Bytes → Got A} → Takes n R → Pays (λ a k. n + c ≤ k) c R
pays-takes n c h s a w e = (n + c, omega arith, omega (arith, h.less s a w e))

pub pays-any : {A : Type 0} (n c : ℕ) {R : Bytes → Got A} → Takes n R → Pays Any c R
pays-any n c h s a w e = (c, tt, omega (arith, h.less s a w e))

-- ---- loops

-- a turn's part in what the whole costs
abbrev pub Adds : {B : Type 0} → (B → ℕ) → Step B → ℕ → Type 0
Adds {B} μ (more g) k = (b : B) → μ (g b) ≤ k + μ b
Adds {B} μ (last b) k = μ b ≤ k

module _ {B : Type 0} (μ : B → ℕ) (f : Bytes → Got (Step B)) (h : Pays (Adds μ) 0 f) where
  after-pays : (n k : ℕ) (w : Step B) (t : Bytes) (b : B) (v : Bytes) → Adds μ w k → ((c : B) → turns f n t ≡ got c v → μ c + length v ≤ length t) → after w t (turns f n) ≡ got b v → μ b + length v ≤ k + length t
  after-pays n k (more g) t b v a r e =
      let i = under-inv g (turns f n t) e in
      omega (arith, a i.0, r i.0 i.1, ap μ i.2)
  after-pays n k (last x) t b v a r e = omega (arith, a, ap μ (got-what e), ap length (got-rest e))

  turns-pay : (n : ℕ) (s : Bytes) (b : B) (v : Bytes) → turns f n s ≡ got b v → μ b + length v ≤ length s
  unfolding turns
  turns-pay zero s b v e = absurd (not-bad e)
  turns-pay (suc n) s b v e =
      let i = bind_inv (f s) (λ w t. after w t (turns f n)) e in
      let p = h s i.0 i.1 i.2 in
      omega (arith, p.2, after-pays n p.0 i.0 i.1 b v p.1 (λ c q. turns-pay n i.1 c v q) i.3)

  pub pays-loop : Pays (Within μ) 0 (loop f)
  unfolding loop
  pays-loop s b v e = (μ b, omega arith, omega (arith, turns-pay (suc (length s)) s b v e))
