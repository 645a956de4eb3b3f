use Rattle.output.proofs.Laws.{failed}
-- Four pieces in a row: a bracket, the name in lower case, a comma and a brace, the group's member or nothing. `s₁` to `s₄` say after each call
-- what is written and which pieces are still to come; they are head_piece by its definition (`all`). Full comes from the bracket (`none`) or from
-- one of the three others (`stop!`).
use Rattle.json_text.specs.Compact.{quoted}
use Rattle.text.specs.Bytes.{lowered}
use Rattle.to_json_kept.specs.Entry.{group_piece}
use native.Mathlib.Nat.{le_refl}
use mathlib.Core.List.{[], ◌∷◌}
use Rattle.output.proofs.Rows.{Here, first!, next!, none, stop!, all, in!, fit!, same! }
use Rattle.to_json_kept.proofs.put_head.Goals as goal
use Rattle.to_json_kept.proofs.put_head.Goals.{In_ok-a, In_ok-d, In_ok-b, In_ok-c}

abbrev s₁ : In_ok-a → Here
s₁ c =
    let args = c.args in
    let put_byte = c.put_byte in
    first! (quoted (lowered args.name.now) [] ∷ (44 ∷ 123 ∷ []) ∷ group_piece args.group.now ∷ []) put_byte.ensures
    c.in_ok-a.was

abbrev s₂ : In_ok-b → Here
s₂ c =
    next! (s₁ (goal.at.In_ok-b c).In_ok-a) c.put_lower.ensures c.in_ok-b.was

abbrev s₃ : In_ok-c → Here
s₃ c =
    next! (s₂ (goal.at.In_ok-c c).In_ok-b) c.put_text.ensures c.in_ok-c.was

abbrev s₄ : In_ok-d → Here
s₄ c =
    next! (s₃ (goal.at.In_ok-d c).In_ok-c) c.put_group.ensures c.in_ok-d.was

pub returns-in_err-a : goal.returns-in_err-a
returns-in_err-a c =
    failed c.from_residual.ensures.0
    (none _ c.put_byte.ensures c.in_err-a.was)

pub slice_bounds-put_lower-count : goal.slice_bounds-put_lower-count
slice_bounds-put_lower-count c = in! (s₁ c)

pub slice_bounds-put_lower-start : goal.slice_bounds-put_lower-start
slice_bounds-put_lower-start c = in! (s₁ c)

pub slice_bounds-put_lower-end : goal.slice_bounds-put_lower-end
slice_bounds-put_lower-end c = le_refl _

pub returns-in_err-b : goal.returns-in_err-b
returns-in_err-b c =
    failed c.from_residual-in_err-b.ensures.0
    (stop! (s₁ (goal.at.returns-in_err-b c).In_ok-a) c.put_lower.ensures c.in_err-b.was)

pub overflow_add-ab : goal.overflow_add-ab
overflow_add-ab c = fit! (s₂ c) c.well_formed.0.0

pub slice_bounds-put_text-count : goal.slice_bounds-put_text-count
slice_bounds-put_text-count c = in! (s₂ c)

pub slice_bounds-put_text-start : goal.slice_bounds-put_text-start
slice_bounds-put_text-start c = in! (s₂ c)

pub slice_bounds-put_text-end : goal.slice_bounds-put_text-end
slice_bounds-put_text-end c = le_refl _

pub returns-in_err-c : goal.returns-in_err-c
returns-in_err-c c =
    failed c.from_residual-in_err-c.ensures.0
    (stop! (s₂ (goal.at.returns-in_err-c c).In_ok-b) c.put_text.ensures c.in_err-c.was)

pub overflow_add-ac : goal.overflow_add-ac
overflow_add-ac c = fit! (s₃ c) c.well_formed.0.0

pub slice_bounds-put_group-count : goal.slice_bounds-put_group-count
slice_bounds-put_group-count c = in! (s₃ c)

pub slice_bounds-put_group-start : goal.slice_bounds-put_group-start
slice_bounds-put_group-start c = in! (s₃ c)

pub slice_bounds-put_group-end : goal.slice_bounds-put_group-end
slice_bounds-put_group-end c = le_refl _

pub returns-in_err-d : goal.returns-in_err-d
returns-in_err-d c =
    failed c.from_residual-in_err-d.ensures.0
    (stop! (s₃ (goal.at.returns-in_err-d c).In_ok-c) c.put_group.ensures c.in_err-d.was)

pub overflow_add-ad : goal.overflow_add-ad
overflow_add-ad c = fit! (s₄ c) c.well_formed.0.0

pub shape_of-out : goal.shape_of-out
shape_of-out c = same! (s₄ c)

pub returns : goal.returns
returns c = all (s₄ c).left
