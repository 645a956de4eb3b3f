-- Laws of readers by place: one for each way through a combinator, so that a proof of code only cites them.
use mathlib.Core.Path.{◌≡◌, refl, sym, ap, subst}
use mathlib.Core.Bool.{Bool, true, false}
use mathlib.Core.Logic.{⊎_elim}
use mathlib.Core.List.{[], ◌∷◌, tail}
use Prim.Native.Nat.{ℕ, zero, suc, ◌+◌, ◌≤◌, ◌<◌}
use native.Mathlib.Nat.{eq-or-lt_of_le}
use native.Mathlib.Numerals.{add-one}
use native.Mathlib.Omega.{arith}
use lib.ListN.{length, get_or, drop, drop_of_length-le, get_or-eq_default}
use lib.Seq.{drop-cons, drop-nil}
use Rattle.text.specs.Places.{Read}
use Rattle.std.specs.Prelude.{Ok, Err}
use Rattle.text.specs.Places.{Turn}
use Rattle.std.proofs.Common.{Continue, Break}
use Rattle.text.specs.Bytes.{Bytes}
use Rattle.text.specs.Reader.{Got, got, bad, bind, under, first, on, when, Step, more, last, past}
pub use Rattle.text.proofs.Cases.{by_bool, between-true as Between-in}
use Rattle.text.specs.Places.{byte_at, Within, WithinT, Agree, AgreeT, Gives, GivesT, Passes}

-- ---- bytes
-- a byte, whatever stands for the end
pub byte-default : (s : Bytes) (i d e : ℕ) → i < length s → get_or s i d ≡ get_or s i e
byte-default [] i d e h = omega arith
byte-default (b ∷ s) zero d e h = refl
byte-default (b ∷ s) (suc i) d e h = byte-default s i d e (omega arith)

-- a place whose byte passes a test that 256 does not pass
pub inside : (p : ℕ → Bool) (s : Bytes) (i : ℕ) → p 256 ≡ false → i ≤ length s → p (byte_at s i) ≡ true → i < length s
inside p s i z h e =
    ⊎_elim
    (λ h'. let q : byte_at s i ≡ 256 = get_or-eq_default s 256 (omega arith) in let r : ◌≡◌ {A = ℕ} 0 1 = cc in omega arith)
    (λ h'. h')
    (eq-or-lt_of_le h)

-- the same of the byte that the code looked at
pub inside-at : (p : ℕ → Bool) (s : Bytes) (i b : ℕ) → p 256 ≡ false → i ≤ length s → b ≡ byte_at s i → p b ≡ true → i < length s
inside-at p s i b z l e h = inside p s i z l (rw e at h)

-- the first byte and the rest of what stands from a place on
pub first-drop : (s : Bytes) (i : ℕ) → first (drop i s) ≡ byte_at s i
first-drop [] i = rw (drop-nil i)
first-drop (c ∷ s) zero = refl
first-drop (c ∷ s) (suc i) = first-drop s i

pub tail-drop : (s : Bytes) (i : ℕ) → tail (drop i s) ≡ drop (i + 1) s
tail-drop [] i = rw (drop-nil i, drop-nil (i + 1))
tail-drop (c ∷ s) zero = refl
tail-drop (c ∷ s) (suc i) = rw (add-one (suc i)) (rw (add-one i) at (tail-drop s i))

-- ---- by the first byte, where the code looked at it
module _ {A : Type 0} (p : ℕ → Bool) (s : Bytes) (i b : ℕ) (e : b ≡ byte_at s i) where
  pub on-yes : (f : ℕ → Bytes → Got A) (g : Bytes → Got A) → p b ≡ true → on p f g (drop i s) ≡ f b (drop (i + 1) s)
  unfolding on
  on-yes f g h = rw (first-drop s i, tail-drop s i, ← e, h)

  pub on-no : (f : ℕ → Bytes → Got A) (g : Bytes → Got A) → p b ≡ false → on p f g (drop i s) ≡ g (drop i s)
  unfolding on
  on-no f g h = rw (first-drop s i, ← e, h)

  pub when-yes : (f g : Bytes → Got A) → p b ≡ true → when p f g (drop i s) ≡ f (drop i s)
  unfolding when
  when-yes f g h = rw (first-drop s i, ← e, h)

  pub when-no : (f g : Bytes → Got A) → p b ≡ false → when p f g (drop i s) ≡ g (drop i s)
  unfolding when
  when-no f g h = rw (first-drop s i, ← e, h)

-- ---- a run of bytes that pass a test
module _ (p : ℕ → Bool) (s : Bytes) where
  pub passes_none : (at : ℕ) → at ≤ length s → p (byte_at s at) ≡ false → Passes p s at at
  unfolding past
  passes_none at l e = record {
    is = ⊎_elim
        (λ q. let n : drop at s ≡ [] = drop_of_length-le s {i = at} (omega arith) in rw n)
        (λ q. rw (drop-cons s at 256 q, e))
        (eq-or-lt_of_le l);
    from = omega arith;
    to = l;
  }

  pub passes-one : (at r : ℕ) → at < length s → p (byte_at s at) ≡ true → Passes p s (at + 1) r → Passes p s at r
  unfolding past
  passes-one at r l e h = record {
    is = rw (drop-cons s at 256 l, e) (rw (add-one at) at h.is);
    from = omega (arith, h.from);
    to = h.to;
  }

-- the invariant of a loop that passes them: what is passed from here is passed from there
pub record Passing (p : ℕ → Bool) (s : Bytes) (at i : ℕ) : Type 0 where
  pub to : i ≤ length s
  pub back : (r : ℕ) → Passes p s i r → Passes p s at r

pub passing-from : (p : ℕ → Bool) (s : Bytes) (at : ℕ) → at ≤ length s → Passing p s at at
passing-from p s at l = record { to = l; back = λ r h. h }

module _ {p : ℕ → Bool} {s : Bytes} {at i : ℕ} (h : Passing p s at i) (b : ℕ) (e : b ≡ byte_at s i) where
  pub passing-in : p 256 ≡ false → p b ≡ true → i < length s
  passing-in z t = inside-at p s i b z h.to e t

  pub passing-on : p 256 ≡ false → p b ≡ true → Passing p s at (i + 1)
  passing-on z t = record {
    to = omega (arith, passing-in z t);
    back = λ r x. h.back r (passes-one p s i r (passing-in z t) (rw e at t) x);
  }

  pub passing-end : p b ≡ false → Passes p s at i
  passing-end t = h.back i (passes_none p s i h.to (rw e at t))

-- ---- bounds
pub within-up : (a b n : ℕ) (r : Read) → a ≤ b → Within b n r → Within a n r
within-up a b n (Ok e) h w = omega arith
within-up a b n (Err e) h w = omega arith

pub within-up_t : (a b n : ℕ) (w : Turn) → a ≤ b → WithinT b n w → WithinT a n w
within-up_t a b n (Continue j) h w = omega arith
within-up_t a b n (Break r) h w = within-up a b n r h w

-- ---- what a reader gave
module _ {A : Type 0} {s : Bytes} where
  -- once it is known which answer it was
  pub gives_as : {at : ℕ} {want : Got A} {r q : Read} → Gives s at want r → r ≡ q → Gives s at want q
  gives_as {at} {want} h e = record { is = subst (Agree s want) e h.is; within = subst (Within at (length s)) e h.within }

  -- a reader that is another by definition, and one that starts further right
  pub same-as : {at : ℕ} {want want' : Got A} {r : Read} → want' ≡ want → Gives s at want r → Gives s at want' r
  same-as {at} {want} {want'} {r} e h = record { is = subst (λ w. Agree s w r) (sym e) h.is; within = h.within }

  pub up : {a b : ℕ} {want : Got A} {r : Read} → a ≤ b → Gives s b want r → Gives s a want r
  up {a} {b} {want} {r} l h = record { is = h.is; within = within-up a b (length s) r l h.within }

  pub here : (a : A) (i : ℕ) → i ≤ length s → Gives s i (got a (drop i s)) (Ok i)
  here a i l = record { is = refl; within = (omega arith, l) }

  pub bad-here : (i : ℕ) → i ≤ length s → Gives {A = A} s i (bad (drop i s)) (Err i)
  bad-here i l = record { is = refl; within = (omega arith, l) }

  -- what was read, and that nothing was
  pub at_next : {at e : ℕ} (want : Got A) → Gives s at want (Ok e) → (a : A) × (want ≡ got a (drop e s))
  at_next (got a t) h = (a, ap (got a) h.is)
  at_next (bad t) h = absurd h.is

  pub at-bad : {at b : ℕ} (want : Got A) → Gives s at want (Err b) → want ≡ bad (drop b s)
  at-bad (got a t) h = absurd h.is
  at-bad (bad t) h = ap bad h.is

  under-by : {C : Type 0} (f : A → C) (at : ℕ) (want : Got A) (r : Read) → Gives s at want r → Gives s at (under f want) r
  under-by f at (got a t) (Ok e) h = record { is = h.is; within = h.within }
  under-by f at (got a t) (Err e) h = absurd h.is
  under-by f at (bad t) (Ok e) h = absurd h.is
  under-by f at (bad t) (Err e) h = record { is = h.is; within = h.within }

  pub by-under : {C : Type 0} (f : A → C) {at : ℕ} {want : Got A} {r : Read} → Gives s at want r → Gives s at (under f want) r
  by-under f {at} {want} {r} h = under-by f at want r h

  -- the last of a row: the answer by place is passed on
  end_by : {C : Type 0} (f : A → C) (at : ℕ) (want : Got A) (r : Read) → Gives s at want r → Gives s at (bind want (λ a t. got (f a) t)) r
  end_by f at (got a t) (Ok e) h = record { is = h.is; within = h.within }
  end_by f at (got a t) (Err e) h = absurd h.is
  end_by f at (bad t) (Ok e) h = absurd h.is
  end_by f at (bad t) (Err e) h = record { is = h.is; within = h.within }

  pub then-end : {C : Type 0} (f : A → C) {at : ℕ} {want : Got A} {r : Read} → Gives s at want r → Gives s at (bind want (λ a t. got (f a) t)) r
  then-end f {at} {want} {r} h = end_by f at want r h

  -- by the first byte
  pub by-on : (p : ℕ → Bool) (f : ℕ → Bytes → Got A) (g : Bytes → Got A) {i b : ℕ} {r : Read} → b ≡ byte_at s i → p b ≡ true
      → Gives s (i + 1) (f b (drop (i + 1) s)) r → Gives s i (on p f g (drop i s)) r
  by-on p f g {i} {b} e h x = same-as (on-yes p s i b e f g h) (up (omega arith) x)

  pub not_on : (p : ℕ → Bool) (f : ℕ → Bytes → Got A) (g : Bytes → Got A) {i b : ℕ} {r : Read} → b ≡ byte_at s i → p b ≡ false
      → Gives s i (g (drop i s)) r → Gives s i (on p f g (drop i s)) r
  not_on p f g {i} {b} e h x = same-as (on-no p s i b e f g h) x

  pub by-when : (p : ℕ → Bool) (f g : Bytes → Got A) {i b : ℕ} {r : Read} → b ≡ byte_at s i → p b ≡ true
      → Gives s i (f (drop i s)) r → Gives s i (when p f g (drop i s)) r
  by-when p f g {i} {b} e h x = same-as (when-yes p s i b e f g h) x

  pub not-when : (p : ℕ → Bool) (f g : Bytes → Got A) {i b : ℕ} {r : Read} → b ≡ byte_at s i → p b ≡ false
      → Gives s i (g (drop i s)) r → Gives s i (when p f g (drop i s)) r
  not-when p f g {i} {b} e h x = same-as (when-no p s i b e f g h) x

module _ {A C : Type 0} {s : Bytes} where
  -- one reader after another
  pub then_next : (k : A → Bytes → Got C) {at e : ℕ} {want : Got A} {r : Read}
      → Gives s at want (Ok e) → ((a : A) → Gives s e (k a (drop e s)) r) → Gives s at (bind want k) r
  then_next k {at} {e} {want} {r} h g =
      let w = at_next want h in
      same-as (ap (λ (x : Got A). bind x k) w.1) (up h.within.0 (g w.0))

  pub then-bad : (k : A → Bytes → Got C) {at b : ℕ} {want : Got A} → Gives s at want (Err b) → Gives s at (bind want k) (Err b)
  then-bad k {at} {b} {want} h =
      same-as (ap (λ (x : Got A). bind x k) (at-bad want h)) (record { is = refl; within = h.within })

-- a row of readers whose last differs by a function from another's
pub bind-under : {A B C : Type 0} (f : B → C) (x : Got A) (k : A → Bytes → Got C) (l : A → Bytes → Got B)
    → ((a : A) (t : Bytes) → k a t ≡ under f (l a t)) → bind x k ≡ under f (bind x l)
bind-under f (got a t) k l h = h a t
bind-under f (bad t) k l h = refl

-- ---- the same where a turn of a loop is what is read
module _ {B : Type 0} {s : Bytes} where
  pub turn-as : {at : ℕ} {want : Got (Step B)} {r q : Turn} → GivesT s at want r → r ≡ q → GivesT s at want q
  turn-as {at} {want} h e = record { is = subst (AgreeT s want) e h.is; within = subst (WithinT at (length s)) e h.within }

  pub same_turn : {at : ℕ} {want want' : Got (Step B)} {r : Turn} → want' ≡ want → GivesT s at want r → GivesT s at want' r
  same_turn {at} {want} {want'} {r} e h = record { is = subst (λ w. AgreeT s w r) (sym e) h.is; within = h.within }

  pub up_turn : {a b : ℕ} {want : Got (Step B)} {r : Turn} → a ≤ b → GivesT s b want r → GivesT s a want r
  up_turn {a} {b} {want} {r} l h = record { is = h.is; within = within-up_t a b (length s) r l h.within }

  pub more-here : (g : B → B) {at j : ℕ} → at < j → j ≤ length s → GivesT s at (got (more g) (drop j s)) (Continue j)
  more-here g l h = record { is = refl; within = (l, h) }

  pub last-here : (b : B) {at e : ℕ} → at ≤ e → e ≤ length s → GivesT s at (got (last b) (drop e s)) (Break (Ok e))
  last-here b l h = record { is = refl; within = (l, h) }

  pub bad-turn : {at b : ℕ} → at ≤ b → b ≤ length s → GivesT {B = B} s at (bad (drop b s)) (Break (Err b))
  bad-turn l h = record { is = refl; within = (l, h) }

  pub turn-next : {A : Type 0} (k : A → Bytes → Got (Step B)) {at e : ℕ} {want : Got A} {r : Turn}
      → Gives s at want (Ok e) → ((a : A) → GivesT s e (k a (drop e s)) r) → GivesT s at (bind want k) r
  turn-next {A} k {at} {e} {want} {r} h g =
      let w = at_next want h in
      same_turn (ap (λ (x : Got A). bind x k) w.1) (up_turn h.within.0 (g w.0))

  pub turn-bad : {A : Type 0} (k : A → Bytes → Got (Step B)) {at b : ℕ} {want : Got A} → Gives s at want (Err b) → GivesT s at (bind want k) (Break (Err b))
  turn-bad {A} k {at} {b} {want} h =
      same_turn (ap (λ (x : Got A). bind x k) (at-bad want h)) (record { is = refl; within = h.within })

  -- a reader whose answer is a turn that goes on
  pub under_more : {A : Type 0} (f : A → B → B) {a b j : ℕ} {want : Got A} → a < b → Gives s b want (Ok j) → GivesT s a (under (λ x. more (f x)) want) (Continue j)
  under_more {A} f {a} {b} {j} {want} l h =
      let w = at_next want h in
      same_turn (ap (λ (x : Got A). under (λ y. more (f y)) x) w.1) (record { is = refl; within = (omega (arith, h.within.0), h.within.1) })

  pub under-bad : {A : Type 0} (f : A → B → B) {a b j : ℕ} {want : Got A} → a ≤ b → Gives s b want (Err j) → GivesT s a (under (λ x. more (f x)) want) (Break (Err j))
  under-bad {A} f {a} {b} {j} {want} l h =
      same_turn (ap (λ (x : Got A). under (λ y. more (f y)) x) (at-bad want h)) (record { is = refl; within = (omega (arith, h.within.0), h.within.1) })
