use Rattle.output.proofs.Laws.{failed}
use native.Mathlib.Nat.{le_refl}
use mathlib.Core.List.{[], ◌∷◌}
use Rattle.output.proofs.Rows.{Here, first!, next!, none, stop!, all, in!, fit!, same! }
use Rattle.output.proofs.put_two.Goals as goal
use Rattle.output.proofs.put_two.Goals.{In_ok-n, In_ok-m}

abbrev s₁ : In_ok-n → Here
s₁ c = first! (c.args.b.now ∷ []) c.put_text.ensures c.in_ok-n.was

abbrev s₂ : In_ok-m → Here
s₂ c =
    next! (s₁ (goal.at.In_ok-m c).In_ok-n) c.put_text-2.ensures c.in_ok-m.was

pub returns-in_err-n : goal.returns-in_err-n
returns-in_err-n c =
    failed c.from_residual.ensures.0
    (none _ c.put_text.ensures c.in_err-n.was)

pub slice_bounds-put_text-count : goal.slice_bounds-put_text-count
slice_bounds-put_text-count c = in! (s₁ c)

pub slice_bounds-put_text-start : goal.slice_bounds-put_text-start
slice_bounds-put_text-start c = in! (s₁ c)

pub slice_bounds-put_text-end : goal.slice_bounds-put_text-end
slice_bounds-put_text-end c = le_refl _

pub returns-in_err-m : goal.returns-in_err-m
returns-in_err-m c =
    failed c.from_residual-in_err-m.ensures.0
    (stop! (s₁ (goal.at.returns-in_err-m c).In_ok-n) c.put_text-2.ensures c.in_err-m.was)

pub overflow_add-nm : goal.overflow_add-nm
overflow_add-nm c = fit! (s₂ c) c.well_formed.0.0

pub shape_of-out : goal.shape_of-out
shape_of-out c = same! (s₂ c)

pub returns : goal.returns
returns c = all (s₂ c).left
