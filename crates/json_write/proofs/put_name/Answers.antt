use Rattle.output.proofs.Laws.{failed}
use native.Mathlib.Nat.{le_refl}
use mathlib.Core.List.{[], ◌∷◌}
use Rattle.output.proofs.Laws.{puts-as}
use Rattle.json_write.proofs.Spelling.{name-row}
use Rattle.output.proofs.Rows.{Here, first!, next!, none, stop!, all, in!, fit!, same! }
use Rattle.json_write.proofs.put_name.Goals as goal
use Rattle.json_write.proofs.put_name.Goals.{In_ok-a, In_ok-b}

abbrev s₁ : In_ok-a → Here
s₁ c = first! ((58 ∷ []) ∷ []) c.put_string.ensures c.in_ok-a.was

abbrev s₂ : In_ok-b → Here
s₂ c =
    next! (s₁ (goal.at.In_ok-b c).In_ok-a) c.put_byte.ensures c.in_ok-b.was

pub returns-in_err-a : goal.returns-in_err-a
returns-in_err-a c =
    failed c.from_residual.ensures.0
    (puts-as (name-row c.args.s.now) (none _ c.put_string.ensures c.in_err-a.was))

pub slice_bounds-put_byte-count : goal.slice_bounds-put_byte-count
slice_bounds-put_byte-count c = in! (s₁ c)

pub slice_bounds-put_byte-start : goal.slice_bounds-put_byte-start
slice_bounds-put_byte-start c = in! (s₁ c)

pub slice_bounds-put_byte-end : goal.slice_bounds-put_byte-end
slice_bounds-put_byte-end c = le_refl _

pub returns-in_err-b : goal.returns-in_err-b
returns-in_err-b c =
    failed c.from_residual-in_err-b.ensures.0
    (puts-as (name-row c.args.s.now) (stop! (s₁ (goal.at.returns-in_err-b c).In_ok-a) c.put_byte.ensures c.in_err-b.was))

pub overflow_add-ab : goal.overflow_add-ab
overflow_add-ab c = fit! (s₂ c) c.well_formed.0.0

pub shape_of-out : goal.shape_of-out
shape_of-out c = same! (s₂ c)

pub returns : goal.returns
returns c = puts-as (name-row c.args.s.now) (all (s₂ c).left)
