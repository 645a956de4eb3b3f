-- Made numbers only grow within a map, so that one counter is enough.
use mathlib.Core.Path.{◌≡◌, refl, sym, ap, ◌∙◌}
use mathlib.Core.Bool.{true, false, ◌||◌}
use mathlib.Core.List.{List, ◌∷◌}
use Prim.Native.Nat.{ℕ, zero, suc, ◌+◌, ◌≤◌, ◌<◌}
use native.Mathlib.Omega.{arith}
use lib.Dec.{eqb}
use lib.ListN.{length}
use borrow.Author.Tests.{eqb-true, eqb-false}
use Rattle.text.specs.Bytes.{Bytes, any, same, among}
use Rattle.text.proofs.Cases.{by_bool, split, not-both}
use Rattle.text.proofs.Same.{same_true, among-head, among_later, differ_same}
use Rattle.convert.specs.Keys.{numbered, fresh}
use Rattle.convert.proofs.Fresh.{numbered-injective, number_from, fresh-numbered, fresh-unused, fresh-least}
use Rattle.to_json_keys.specs.Taken.{Next, Going}

pub going-first : (p : Bytes) (ids : List Bytes) → Going p ids ids 1
going-first p ids = record { from = omega arith; low = λ j a b. absurd (omega arith); high = λ j a. refl }

among-cons : (x k : Bytes) (ks : List Bytes) → among x (k ∷ ks) ≡ same x k || among x ks
unfolding among any
among-cons x k ks = refl

-- an entry with a PROP-ID
pub going-own : {p : Bytes} {ids used : List Bytes} {m : ℕ} (k : Bytes) → among k ids ≡ true → Going p ids used m → Going p ids (k ∷ used) m
going-own {p} {ids} {used} {m} k h g = record {
  from = g.from;
  low = λ j a b. among_later (numbered p j) k used (g.low j a b);
  high = λ j a.
      by_bool (same (numbered p j) k)
      (λ e. among-cons (numbered p j) k used ∙ ap (λ b. b || among (numbered p j) used) e ∙ sym (ap (λ x. among x ids) (same_true (numbered p j) k e) ∙ h))
      (λ e. among-cons (numbered p j) k used ∙ ap (λ b. b || among (numbered p j) used) e ∙ g.high j a);
}

-- ---- an entry without

number_bound : (f : ℕ) (p : Bytes) (n : ℕ) (used : List Bytes) → (n ≤ number_from f p n used) × (number_from f p n used ≤ n + f)
unfolding number_from
number_bound zero p n used = (omega arith, omega arith)
number_bound (suc f) p n used =
    let b = number_bound f p (suc n) used in
    by_bool (among (numbered p n) used) (λ e. rw e (omega (arith, b.0), omega (arith, b.1))) (λ e. rw e (omega arith, omega arith))

module _ {p : Bytes} {ids used : List Bytes} {m r : ℕ} (g : Going p ids used m) (few : length used ≤ 1023) (next : Next p ids m r) where
  f : ℕ
  f = number_from (length used) p 1 used

  is : fresh p used ≡ numbered p f
  unfolding fresh f
  is = fresh-numbered (length used) p 1 used

  positive : 1 ≤ f
  unfolding f
  positive = (number_bound (length used) p 1 used).0

  small : f < 1025
  unfolding f
  small = omega (arith, (number_bound (length used) p 1 used).1)

  unused : among (numbered p f) used ≡ false
  unused = ap (λ x. among x used) (sym is) ∙ fresh-unused p used

  above : m ≤ f
  above = split m f (λ h. h) (λ h. not-both (g.low f positive h) unused)

  least : r ≤ f
  least = split r f (λ h. h) (λ h. not-both (g.high f above ∙ next.taken f above h small) unused)

  free : among (numbered p r) used ≡ false
  free = g.high r next.on ∙ next.free (let a : r ≤ f = least in let b : f < 1025 = small in omega arith)

  last : f ≤ r
  unfolding f
  last = split f r (λ h. h) (λ h. not-both (fresh-least p used r (omega (arith, g.from, next.on)) h) free)

  pub made-low : r < 1025
  made-low = let a : r ≤ f = least in let b : f < 1025 = small in omega arith

  -- the key is that of the next free number
  pub made-key : fresh p used ≡ numbered p r
  made-key = is ∙ ap (numbered p) (let a : r ≤ f = least in let b : f ≤ r = last in omega arith)

  pub going-made : Going p ids (numbered p r ∷ used) (r + 1)
  going-made = record {
    from = omega arith;
    low = λ j a b.
        by_bool (eqb j r)
        (λ q. ap (λ x. among (numbered p x) (numbered p r ∷ used)) (eqb-true j r q) ∙ among-head (numbered p r) used)
        (λ q. among_later (numbered p j) (numbered p r) used (before j a (let n : (j ≡ r → ⊥) = eqb-false j r q in omega arith)));
    high = λ j a.
        among-cons (numbered p j) (numbered p r) used
        ∙ ap (λ b. b || among (numbered p j) used) (differ_same (numbered p j) (numbered p r) (λ e. let z : j ≡ r = numbered-injective p j r e in omega (arith, z)))
        ∙ g.high j (omega (arith, next.on));
  }
    where
      before : (j : ℕ) → 1 ≤ j → j < r → among (numbered p j) used ≡ true
      before j a b =
          split m j
          (λ h. g.high j h ∙ next.taken j h b (let l : r ≤ f = least in let s : f < 1025 = small in omega arith))
          (λ h. g.low j a h)
