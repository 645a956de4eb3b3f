use Rattle.output.proofs.Laws.{failed}
use Rattle.text.specs.Bytes.{flat}
use Rattle.to_json_name.specs.Name.{components_from}
use mathlib.Core.Bool.{false}
use native.Mathlib.Nat.{le_refl}
use mathlib.Core.List.{[], ◌∷◌}
use Rattle.output.proofs.Rows.{Here, first!, next!, none, stop!, all, in!, fit!, same! }
use Rattle.to_json_name.proofs.put_parts_member.Goals as goal
use Rattle.to_json_name.proofs.put_parts_member.Goals.{In_ok-a, In_ok-b}

abbrev s₁ : In_ok-a → Here
s₁ c = first! (flat ((91 ∷ []) ∷ components_from 7 c.args.v.now 0 false ∷ (93 ∷ []) ∷ []) ∷ []) c.put_parts_head.ensures c.in_ok-a.was

abbrev s₂ : In_ok-b → Here
s₂ c =
    next! (s₁ (goal.at.In_ok-b c).In_ok-a) c.put_components.ensures c.in_ok-b.was

pub returns-in_err-a : goal.returns-in_err-a
returns-in_err-a c =
    failed c.from_residual.ensures.0
    (none _ c.put_parts_head.ensures c.in_err-a.was)

pub slice_bounds-put_components-count : goal.slice_bounds-put_components-count
slice_bounds-put_components-count c = in! (s₁ c)

pub slice_bounds-put_components-start : goal.slice_bounds-put_components-start
slice_bounds-put_components-start c = in! (s₁ c)

pub slice_bounds-put_components-end : goal.slice_bounds-put_components-end
slice_bounds-put_components-end c = le_refl _

pub put_components-requires : goal.put_components-requires
put_components-requires c = c.requires

pub returns-in_err-b : goal.returns-in_err-b
returns-in_err-b c =
    failed c.from_residual-in_err-b.ensures.0
    (stop! (s₁ (goal.at.returns-in_err-b c).In_ok-a) c.put_components.ensures c.in_err-b.was)

pub overflow_add-ab : goal.overflow_add-ab
overflow_add-ab c = fit! (s₂ c) c.well_formed.0.0

pub shape_of-out : goal.shape_of-out
shape_of-out c = same! (s₂ c)

pub returns : goal.returns
returns c = all (s₂ c).left
