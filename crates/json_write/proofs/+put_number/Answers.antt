use Rattle.output.proofs.Laws.{failed}
use Prim.Native.Nat.{◌+◌, ◌%◌}
use mathlib.Core.List.{[], ◌∷◌}
use Rattle.output.proofs.Laws.{puts-as}
use Rattle.output.proofs.Rows.{Here, first!, next!, none, stop!, all, in!, fit! }
use Rattle.json_write.proofs.Digits.{one-digit, last-digit}
use Prim.Native.Nat.{ℕ}
use Rattle.json_write.proofs.+put_number.Goals as goal
use Rattle.json_write.proofs.+put_number.Goals.{In_ok-a, In_ok-b}

abbrev s₁ : (t : ℕ) → In_ok-a t → Here
s₁ t c = first! (((48 + c.args.n % 10) ∷ []) ∷ []) c.put_number.ensures c.in_ok-a.was

abbrev s₂ : (t : ℕ) → In_ok-b t → Here
s₂ t c = next! (s₁ t (goal.at.In_ok-b t c).In_ok-a) c.put_byte-2.ensures c.in_ok-b.was

pub returns-then-n-lt10 : goal.returns-then-n-lt10
returns-then-n-lt10 t c = puts-as (one-digit c.args.n c.if-n-lt10.true) c.put_byte.ensures

pub returns-in_err-a : goal.returns-in_err-a
returns-in_err-a t c = failed c.from_residual.ensures.0 (puts-as (last-digit c.args.n c.if-n-lt10.false) (none _ c.put_number.ensures c.in_err-a.was))

pub slice_bounds-put_byte-count : goal.slice_bounds-put_byte-count
slice_bounds-put_byte-count t c = in! (s₁ t c)

pub slice_bounds-put_byte-start : goal.slice_bounds-put_byte-start
slice_bounds-put_byte-start t c = in! (s₁ t c)

pub returns-in_err-b : goal.returns-in_err-b
returns-in_err-b t c =
    failed c.from_residual-in_err-b.ensures.0
    (puts-as (last-digit c.args.n c.if-n-lt10.false)
    (stop! (s₁ t (goal.at.returns-in_err-b t c).In_ok-a) c.put_byte-2.ensures c.in_err-b.was))

pub overflow_add-ab : goal.overflow_add-ab
overflow_add-ab t c = fit! (s₂ t c) c.well_formed.0.0

pub returns : goal.returns
returns t c = puts-as (last-digit c.args.n c.if-n-lt10.false) (all (s₂ t c).left)
