-- What is left to do while a reader takes its bytes: `Leads K L R` says that K from where R begins is L from where it ends.
use mathlib.Core.Path.{◌≡◌, refl, ap, ◌∙◌}
use mathlib.Core.Bool.{Bool, true, false}
use mathlib.Core.List.{[], ◌∷◌}
use mathlib.Core.Logic.{⊎_elim}
use Prim.Native.Nat.{ℕ, zero, suc}
use lib.ListN.{length}
use lib.Dec.{eqb}
use borrow.Author.Tests.{eqb-true}
use Rattle.text.specs.Bytes.{Bytes, is}
use Rattle.text.specs.Reader.{Got, got, bad, bind, under, on, when, Step, more, last, after, turns, loop, past, one, some_of}
use Rattle.text.proofs.Cases.{by_bool}
use Rattle.text.proofs.Readers.{not-bad, got-what, got-rest, bind_inv, under-inv, when-inv}

abbrev pub To : Type 0
To = Bytes → Bytes

-- with what was read, L tells what is left to do
abbrev pub Leads : {A : Type 0} → To → (A → To) → (Bytes → Got A) → Type 0
Leads {A} K L R = (s : Bytes) (a : A) (w : Bytes) → R s ≡ got a w → K s ≡ L a w

-- the first byte, where it passes the test, leads from K to L
abbrev pub Byte : (ℕ → Bool) → To → To → Type 0
Byte p K L = (c : ℕ) (t : Bytes) → p c ≡ true → K (c ∷ t) ≡ L t

-- the byte k, by computation
pub byte-is : (k : ℕ) (K L : To) → ((t : Bytes) → K (k ∷ t) ≡ L t) → Byte (is k) K L
byte-is k K L h c t e = rw (eqb-true c k e) (h t)

module _ {A : Type 0} where
  pub leads-got : (L : A → To) (a : A) → Leads (L a) L (got a)
  leads-got L a s b w e = ap (L a) (got-rest e) ∙ ap (λ x. L x w) (got-what e)

  pub leads-bad : (K : To) (L : A → To) → Leads K L bad
  leads-bad K L s a w e = absurd (not-bad e)

  pub leads-on : {K M : To} {L : A → To} {f : ℕ → Bytes → Got A} {g : Bytes → Got A} (p : ℕ → Bool) → p 256 ≡ false → Byte p K M → ((c : ℕ) → Leads M L (f c)) → Leads K L g → Leads K L (on p f g)
  unfolding on
  leads-on p z y h k [] a w e = k [] a w (rw z at e)
  leads-on p z y h k (x ∷ s) a w e = by_bool (p x) (λ q. y x s q ∙ h x s a w (rw q at e)) (λ q. k (x ∷ s) a w (rw q at e))

  pub leads-when : {K : To} {L : A → To} {f g : Bytes → Got A} (p : ℕ → Bool) → Leads K L f → Leads K L g → Leads K L (when p f g)
  leads-when {K} {L} {f} {g} p h k s a w e = ⊎_elim (λ q. h s a w q.1) (λ q. k s a w q.1) (when-inv p f g s e)

  pub leads-under : {B : Type 0} {K : To} {L : A → To} (M : B → To) {R : Bytes → Got A} (f : A → B) → ((a : A) (w : Bytes) → L a w ≡ M (f a) w) → Leads K L R → Leads K M (λ s. under f (R s))
  leads-under {B} {K} {L} M {R} f h r s b w e =
      let u = under-inv f (R s) e in
      r s u.0 w u.1 ∙ h u.0 w ∙ ap (λ x. M x w) u.2

  pub leads-bind : {B : Type 0} {K : To} {L : A → To} {M : B → To} {R : Bytes → Got A} {Q : A → Bytes → Got B} → Leads K L R → ((a : A) → Leads (L a) M (Q a)) → Leads K M (λ s. bind (R s) Q)
  leads-bind {B} {K} {L} {M} {R} {Q} h r s b w e =
      let u = bind_inv (R s) Q e in
      h s u.0 u.1 u.2 ∙ r u.0 u.1 b w u.3

-- ---- bytes of a class

pub past-leads : (p : ℕ → Bool) (K : To) → Byte p K K → (s : Bytes) → K s ≡ K (past p s)
unfolding past
past-leads p K y [] = refl
past-leads p K y (c ∷ s) = by_bool (p c) (λ q. rw q (y c s q ∙ past-leads p K y s)) (λ q. rw q)

pub leads_one : (b : ℕ) (K L : To) → eqb 256 b ≡ false → ((t : Bytes) → K (b ∷ t) ≡ L t) → Leads K (λ c. L) (one b)
unfolding one
leads_one b K L z h = leads-on (is b) z (byte-is b K L h) (λ c. leads-got (λ x. L) c) (leads-bad K (λ x. L))

pub leads-some : (p : ℕ → Bool) (K : To) → Byte p K K → Leads K (λ v. K) (some_of p)
unfolding some_of
leads-some p K y = leads-when p (λ s v w e. past-leads p K y s ∙ ap K (got-rest e)) (leads-bad K (λ v. K))

-- ---- loops

-- after a turn: the same again, or M after the last
abbrev pub Turns : {B : Type 0} → To → To → Step B → To
Turns K M (more g) = K
Turns K M (last b) = M

module _ {B : Type 0} (K M : To) (f : Bytes → Got (Step B)) (h : Leads K (Turns K M) f) where
  after-leads : (n : ℕ) (w : Step B) (t : Bytes) (b : B) (v : Bytes) → ((c : B) → turns f n t ≡ got c v → K t ≡ M v) → after w t (turns f n) ≡ got b v → Turns K M w t ≡ M v
  after-leads n (more g) t b v r e = let i = under-inv g (turns f n t) e in r i.0 i.1
  after-leads n (last x) t b v r e = ap M (got-rest e)

  turns-lead : (n : ℕ) → Leads K (λ b. M) (turns f n)
  unfolding turns
  turns-lead zero s b v e = absurd (not-bad e)
  turns-lead (suc n) s b v e =
      let i = bind_inv (f s) (λ w t. after w t (turns f n)) e in
      h s i.0 i.1 i.2 ∙ after-leads n i.0 i.1 b v (λ c q. turns-lead n i.1 c v q) i.3

  pub leads-loop : Leads K (λ b. M) (loop f)
  unfolding loop
  leads-loop s b v e = turns-lead (suc (length s)) s b v e
