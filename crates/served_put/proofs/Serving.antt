-- An answer served.
use mathlib.Core.Path.{◌≡◌, sym, ap, subst, ◌∙◌}
use Prim.Native.Nat.{ℕ, ◌≤◌, ◌<◌}
use native.Mathlib.Omega.{arith}
use lib.ListN.{length}
use borrow.Author.Tests.{lt-ltb, le-ltb}
use Rattle.text.specs.Bytes.{Bytes}
use Rattle.output.specs.Put.{Wrote, full}
use Rattle.std.specs.Prelude.{Ok, Err}
use Rattle.output.specs.Put.{Puts}
use Rattle.output.proofs.Laws.{put-fits, first, said-full}
use Rattle.convert.specs.Answers.{Answer, no, yes, seek}
use Rattle.convert.specs.Served.{left_by}
use Rattle.served.specs.Served.{Outcome, refused, outcome_of, Serves}
use Rattle.served_put.specs.Lent.{fit_lent}

-- a refusal leaves the lent output as it was
pub serves-refused : (out : Bytes) (a : Answer) (n p : ℕ) → a ≡ no n p → Serves out a (refused n p) out
serves-refused out a n p e = record { said = sym (ap outcome_of e); left = sym (ap (left_by out) e) }

pub serves-as : (out : Bytes) (a b : Answer) (r : Outcome) (after : Bytes) → a ≡ b → Serves out a r after → Serves out b r after
serves-as out a b r after e s = subst (λ x. Serves out x r after) e s

-- 14
pub lent-long : (lent : ℕ) (r : Bytes) → lent < length r → fit_lent lent r ≡ no 14 0
unfolding seek
lent-long lent r l = rw (lt-ltb lent (length r) l)

lent-whole : (lent : ℕ) (r : Bytes) → length r ≤ lent → fit_lent lent r ≡ yes r
unfolding seek
lent-whole lent r l = rw (le-ltb lent (length r) l)

pub serves-written : (out text : Bytes) (r : Wrote) (after : Bytes) (k : ℕ) → length text ≤ length out → Puts out text r after → r ≡ Ok k
    → Serves out (fit_lent (length out) text) (Ok k) after
serves-written out text r after k l p e =
    let s = first p e in
    let f = lent-whole (length out) text l in
    record { said = ap Ok s.is ∙ sym (ap outcome_of f); left = s.left ∙ put-fits out text l ∙ sym (ap (left_by out) f) }

pub never-full : {P : Type 0} (room x : Bytes) (r : Wrote) (out : Bytes) → Puts room x r out → r ≡ (Err full) → length x ≤ length room → P
never-full room x r out p e l = absurd (omega (arith, said-full room x (sym p.said ∙ e)))
