-- Readers that tell what they read: one after another, and a loop over turns that adds to a list.
use mathlib.Core.Path.{◌≡◌, refl, sym, ap, subst, ◌∙◌}
use mathlib.Core.Bool.{Bool}
use mathlib.Core.List.{List, [], ◌∷◌, ◌++◌, append_assoc}
use Prim.Native.Nat.{ℕ, zero, suc, ◌+◌, ◌-◌, ◌≤◌, ◌<◌}
use native.Mathlib.Omega.{arith}
use lib.ListN.{length, take, drop, length-drop}
use lib.Seq.{drop-drop}
use Rattle.text.specs.Bytes.{Bytes}
use Rattle.text.specs.Reader.{Got, got, bad, bind, under, Step, more, last, after, turns, loop, taken, past, run_of}
use Rattle.text.proofs.Readers.{not-bad, under-inv}
use Rattle.line_class.proofs.Runs.{taken-part, past-part, taken-within}
use Rattle.line_scan.specs.Places.{Fails}

-- ---- nothing read

pub fails-bind : {A B : Type 0} (x : Got A) (k : A → Bytes → Got B) → Fails x → Fails (bind x k)
fails-bind (got a t) k h = absurd h
fails-bind (bad t) k h = tt

pub fails-as : {A : Type 0} {x y : Got A} → x ≡ y → Fails y → Fails x
fails-as {x = x} e h = subst Fails (sym e) h

-- a reader that fails gives nothing
pub fails-not : {A : Type 0} (x : Got A) (a : A) (t : Bytes) → Fails x → x ≡ got a t → ⊥
fails-not (got b u) a t h e = h
fails-not (bad u) a t h e = not-bad e

fails-under : {A B : Type 0} (f : A → B) (x : Got A) → Fails x → Fails (under f x)
fails-under f (got a t) h = absurd h
fails-under f (bad t) h = tt

-- ---- a run of a class, from its end

module _ (p : ℕ → Bool) (s : Bytes) (at e : ℕ) (is : e ≡ at + length (taken p (drop at s))) where
  pub run-taken : taken p (drop at s) ≡ take (e - at) (drop at s)
  run-taken =
      let n : e - at ≡ length (taken p (drop at s)) = omega arith in
      rw n (taken-part p (drop at s))

  pub run_past : past p (drop at s) ≡ drop e s
  run_past = past-part p (drop at s) ∙ drop-drop (length (taken p (drop at s))) at s ∙ ap (λ n. drop n s) (sym is)

  pub run-read : run_of p (drop at s) ≡ got (take (e - at) (drop at s)) (drop e s)
  unfolding run_of
  run-read = rw (run-taken, run_past)

  pub run-from : at ≤ e
  run-from = omega arith

  pub run-within : at ≤ length s → e ≤ length s
  run-within h =
      let a : length (taken p (drop at s)) ≤ length s - at = rw length-drop at (taken-within p (drop at s)) in
      omega arith

-- ---- a loop that adds to a list: what it has read from `at` on is pre, and it goes on at i

pub record Reading {A : Type 0} (f : Bytes → Got (Step (List A))) (s : Bytes) (at i : ℕ) (pre : List A) : Type 0 where
  pub from : at ≤ i
  pub to : i ≤ length s
  pub left : ℕ
  pub enough : length s < i + left
  pub is : loop f (drop at s) ≡ under (λ vs. pre ++ vs) (turns f left (drop i s))

under_same : {A : Type 0} (g : A → A) (x : Got A) → ((a : A) → g a ≡ a) → under g x ≡ x
under_same g (got a t) h = ap (λ b. got b t) (h a)
under_same g (bad t) h = refl

under-under : {A : Type 0} (pre : List A) (v : A) (x : Got (List A)) → under (λ vs. pre ++ vs) (under (λ vs. v ∷ vs) x) ≡ under (λ vs. (pre ++ (v ∷ [])) ++ vs) x
under-under pre v (got a t) = ap (λ b. got b t) (sym (append_assoc pre (v ∷ []) a))
under-under pre v (bad t) = refl

module _ {A : Type 0} (f : Bytes → Got (Step (List A))) (s : Bytes) where
  pub reading-from : (at : ℕ) → at ≤ length s → Reading f s at at []
  unfolding loop
  reading-from at h = record {
    from = omega arith;
    to = h;
    left = suc (length (drop at s));
    enough = rw (length-drop at s) (omega arith);
    is = sym (under_same (λ vs. [] ++ vs) _ (λ vs. refl));
  }

  turn_more : (n : ℕ) (v : A) (t u : Bytes) → f t ≡ got (more (λ vs. v ∷ vs)) u → turns f (suc n) t ≡ under (λ vs. v ∷ vs) (turns f n u)
  unfolding turns
  turn_more n v t u e = rw e

  turn_last : (n : ℕ) (vs : List A) (t u : Bytes) → f t ≡ got (last vs) u → turns f (suc n) t ≡ got vs u
  unfolding turns
  turn_last n vs t u e = rw e

  turn-bad : (n : ℕ) (t : Bytes) → Fails (f t) → Fails (turns f (suc n) t)
  unfolding turns
  turn-bad n t h = fails-bind (f t) (λ w u. after w u (turns f n)) h

  -- some turns are left
  some_left : (i n : ℕ) → i ≤ length s → length s < i + n → (m : ℕ) × (n ≡ suc m)
  some_left i zero h l = absurd (omega arith)
  some_left i (suc m) h l = (m, refl)

module _ {A : Type 0} {f : Bytes → Got (Step (List A))} {s : Bytes} {at i : ℕ} {pre : List A} (r : Reading f s at i pre) where
  pub reading-on : (v : A) (j : ℕ) → f (drop i s) ≡ got (more (λ vs. v ∷ vs)) (drop j s) → i < j → j ≤ length s → Reading f s at j (pre ++ (v ∷ []))
  reading-on v j e l h =
      let w = some_left f s i r.left r.to r.enough in
      record {
        from = omega (arith, r.from);
        to = h;
        left = w.0;
        enough = omega (arith, r.enough, w.1);
        is = r.is
            ∙ ap (λ n. under (λ vs. pre ++ vs) (turns f n (drop i s))) w.1
            ∙ ap (under (λ vs. pre ++ vs)) (turn_more f s w.0 v (drop i s) (drop j s) e)
            ∙ under-under pre v (turns f w.0 (drop j s));
      }

  pub reading-last : (vs : List A) (t : Bytes) → f (drop i s) ≡ got (last vs) t → loop f (drop at s) ≡ got (pre ++ vs) t
  reading-last vs t e =
      let w = some_left f s i r.left r.to r.enough in
      r.is ∙ ap (λ n. under (λ vs. pre ++ vs) (turns f n (drop i s))) w.1 ∙ ap (under (λ vs. pre ++ vs)) (turn_last f s w.0 vs (drop i s) t e)

  -- whatever is read in all begins with pre, and the rest is read in some turns from i on
  pub reading-rest : {vs : List A} {t : Bytes} → loop f (drop at s) ≡ got vs t → (ws : List A) × (n : ℕ) × (turns f (suc n) (drop i s) ≡ got ws t) × (vs ≡ pre ++ ws)
  reading-rest e =
      let w = some_left f s i r.left r.to r.enough in
      let q = under-inv (λ ws. pre ++ ws) (turns f (suc w.0) (drop i s)) (sym (r.is ∙ ap (λ n. under (λ vs. pre ++ vs) (turns f n (drop i s))) w.1) ∙ e) in
      (q.0, w.0, q.1, sym q.2)

  pub reading-bad : Fails (f (drop i s)) → Fails (loop f (drop at s))
  reading-bad h =
      let w = some_left f s i r.left r.to r.enough in
      fails-as (r.is ∙ ap (λ n. under (λ vs. pre ++ vs) (turns f n (drop i s))) w.1)
      (fails-under (λ vs. pre ++ vs) (turns f (suc w.0) (drop i s)) (turn-bad f s w.0 (drop i s) h))
