-- The row of marks: one PROP-ID more, and the next number that is free.
use mathlib.Core.Path.{◌≡◌, refl, sym, ap, ◌∙◌}
use mathlib.Core.Bool.{Bool, true, false, ◌||◌}
use mathlib.Core.List.{List, [], ◌∷◌, ◌++◌}
use Prim.Native.Nat.{ℕ, ◌+◌, ◌≤◌, ◌<◌}
use native.Mathlib.Omega.{arith}
use native.Mathlib.Nat.{le_refl}
use lib.Dec.{eqb}
use lib.ListN.{length, get_or, set, length-set}
use lib.Seq.{get_or-set_same, get_or-set_other}
use borrow.Author.Tests.{eqb-true, eqb-false, eq-eqb}
use Rattle.text.specs.Bytes.{Bytes, any, same, among}
use Rattle.text.proofs.Cases.{by_bool, or-second, not-both}
use Rattle.text.proofs.Same.{among-append, among_none}
use Rattle.convert.specs.Keys.{numbered}
use Rattle.to_json_keys.specs.Taken.{Numbers, Marks, NextFree, Nexts}

or-false : (b : Bool) → b || false ≡ b
or-false true = refl
or-false false = refl

among_one : (x k : Bytes) → among x (k ∷ []) ≡ same x k
unfolding among any
among_one x k = or-false (same x k)

pub mark : (p k : Bytes) (row : List ℕ) (n : ℕ) → Numbers p k n → 1025 ≤ length row → Marks p k row (set row n 1)
mark p k row n h w = (
  length-set row n 1,
  λ ids t. record {
    wide = rw length-set w;
    marks = λ j a b.
        let last : among (numbered p j) (ids ++ (k ∷ [])) ≡ among (numbered p j) ids || eqb j n
        = among-append (numbered p j) ids (k ∷ []) ∙ ap (λ x. among (numbered p j) ids || x) (among_one (numbered p j) k ∙ h.says j a b) in
        by_bool (eqb j n)
        (λ q.
        let z : j ≡ n = eqb-true j n q in
        let g : n < length row = omega (arith, w, b, z) in
        eq-eqb (get_or (set row n 1) j 0) 1 (ap (λ x. get_or (set row n 1) x 0) z ∙ get_or-set_same row n 1 0 g) ∙ sym (last ∙ or-second (among (numbered p j) ids) (eqb j n) q))
        (λ q. ap (λ x. eqb x 1) (get_or-set_other row n j 1 0 (eqb-false j n q)) ∙ t.marks j a b ∙ sym (last ∙ ap (λ x. among (numbered p j) ids || x) q ∙ or-false (among (numbered p j) ids)));
  },
)

-- ---- the next free place

pub marked_more : (row : List ℕ) (from j : ℕ) → ((k : ℕ) → from ≤ k → k < j → eqb (get_or row k 0) 1 ≡ true) → get_or row j 0 ≡ 1 → (k : ℕ) → from ≤ k → k < j + 1 → eqb (get_or row k 0) 1 ≡ true
marked_more row from j h e k a b =
    by_bool (eqb k j)
    (λ q. eq-eqb (get_or row k 0) 1 (ap (λ x. get_or row x 0) (eqb-true k j q) ∙ e))
    (λ q. let n : (k ≡ j → ⊥) = eqb-false k j q in h k a (omega arith))

pub no-ids : (row : List ℕ) (taken : Bool) (from : ℕ) → taken ≡ false → Nexts row taken from from
no-ids row true from e = not-both refl e
no-ids row false from e = λ p ids h l. record {
  on = le_refl from;
  taken = λ j a b c. absurd (omega arith);
  free = λ b. ap (among (numbered p from)) h ∙ among_none (numbered p from);
}

pub with-ids : (row : List ℕ) (taken : Bool) (from r : ℕ) → taken ≡ true → NextFree row from r → Nexts row taken from r
with-ids row false from r e f = not-both e refl
with-ids row true from r e f = λ p ids t l. record {
  on = f.on;
  taken = λ j a b c. sym (t.marks j (omega arith) c) ∙ f.marked j a b;
  free = λ b. sym (t.marks r (omega (arith, f.on)) b) ∙ f.free (omega (arith, t.wide));
}
