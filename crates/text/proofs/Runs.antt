-- The laws of a loop over turns: its invariant `Run`, its start, a turn that goes on, one that ends.
use mathlib.Core.Path.{ap}
use Prim.Native.Nat.{ℕ, zero, suc, ◌+◌, ◌≤◌, ◌<◌}
use native.Mathlib.Omega.{arith}
use lib.ListN.{length, drop, length-drop}
use Rattle.text.specs.Places.{Read}
use Rattle.std.proofs.Common.{Continue, Break}
use Rattle.text.specs.Bytes.{Bytes}
use Rattle.text.specs.Reader.{Got, got, bad, bind, under, Step, more, last, after, turns, loop}
use Rattle.text.specs.Places.{Gives, GivesT}
use Rattle.text.proofs.Places.{up, same-as, by-under}

-- the turns from `at` on have come to i: what is given from here is given from there
pub record Run {B : Type 0} (f : Bytes → Got (Step B)) (s : Bytes) (at i : ℕ) : Type 0 where
  pub from : at ≤ i
  pub to : i ≤ length s
  pub left : ℕ
  pub enough : length s < i + left
  pub back : (r : Read) → Gives s i (turns f left (drop i s)) r → Gives s at (loop f (drop at s)) r

module _ {B : Type 0} (s : Bytes) where
  -- a turn that goes on adds to what the later turns give; the last turn's answer is the loop's
  go : (k : Bytes → Got B) (i j : ℕ) (w : Got (Step B)) (r : Read) → GivesT s i w (Continue j) → Gives s j (k (drop j s)) r → Gives s i (bind w (λ v t. after v t k)) r
  go k i j (got (more g) t) r h x = same-as (ap (λ u. under g (k u)) h.is) (up (omega (arith, h.within.0)) (by-under g x))
  go k i j (got (last b) t) r h x = absurd h.is
  go k i j (bad t) r h x = absurd h.is

  stop : (k : Bytes → Got B) (i : ℕ) (w : Got (Step B)) (r : Read) → GivesT s i w (Break r) → Gives s i (bind w (λ v t. after v t k)) r
  stop k i (got (more g) t) r h = absurd h.is
  stop k i (got (last b) t) r h = record { is = h.is; within = h.within }
  stop k i (bad t) r h = record { is = h.is; within = h.within }

module _ {B : Type 0} (f : Bytes → Got (Step B)) (s : Bytes) where
  pub begin : (at : ℕ) → at ≤ length s → Run f s at at
  unfolding loop
  begin at l = record { from = omega arith; to = l; left = suc (length (drop at s)); enough = rw (length-drop at s) (omega arith); back = λ r h. h }

  on-from : (at i j n : ℕ) → at ≤ i → i ≤ length s → length s < i + n → ((r : Read) → Gives s i (turns f n (drop i s)) r → Gives s at (loop f (drop at s)) r)
      → GivesT s i (f (drop i s)) (Continue j) → Run f s at j
  unfolding turns
  on-from at i j zero a b l back h = absurd (omega arith)
  on-from at i j (suc n) a b l back h = record {
    from = omega (arith, h.within.0);
    to = h.within.1;
    left = n;
    enough = omega (arith, h.within.0);
    back = λ r x. back r (go s (turns f n) i j (f (drop i s)) r h x);
  }

  stop-from : (at i n : ℕ) (r : Read) → i ≤ length s → length s < i + n → ((r : Read) → Gives s i (turns f n (drop i s)) r → Gives s at (loop f (drop at s)) r)
      → GivesT s i (f (drop i s)) (Break r) → Gives s at (loop f (drop at s)) r
  unfolding turns
  stop-from at i zero r b l back h = absurd (omega arith)
  stop-from at i (suc n) r b l back h = back r (stop s (turns f n) i (f (drop i s)) r h)

module _ {B : Type 0} {f : Bytes → Got (Step B)} {s : Bytes} {at i : ℕ} where
  pub onward : {j : ℕ} → Run f s at i → GivesT s i (f (drop i s)) (Continue j) → Run f s at j
  onward {j} l h = on-from f s at i j l.left l.from l.to l.enough l.back h

  pub ended : {r : Read} → Run f s at i → GivesT s i (f (drop i s)) (Break r) → Gives s at (loop f (drop at s)) r
  ended {r} l h = stop-from f s at i l.left r l.to l.enough l.back h
