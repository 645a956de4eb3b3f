use Rattle.output.proofs.Laws.{failed}
use Rattle.convert_put.specs.Pieces.{value_piece}
use native.Mathlib.Nat.{le_refl}
use mathlib.Core.List.{[], ◌∷◌}
use Rattle.output.proofs.Rows.{Here, first!, next!, none, stop!, all, in!, fit!, same! }
use Rattle.to_json_entry.proofs.put_string_member.Goals as goal
use Rattle.to_json_entry.proofs.put_string_member.Goals.{In_ok-a, In_ok-b}

abbrev s₁ : In_ok-a → Here
s₁ c = first! (value_piece c.args.raw c.args.v.now ∷ []) c.put_content.ensures c.in_ok-a.was

abbrev s₂ : In_ok-b → Here
s₂ c =
    next! (s₁ (goal.at.In_ok-b c).In_ok-a) c.put_value.ensures c.in_ok-b.was

pub returns-in_err-a : goal.returns-in_err-a
returns-in_err-a c =
    failed c.from_residual.ensures.0
    (none _ c.put_content.ensures c.in_err-a.was)

pub slice_bounds-put_value-count : goal.slice_bounds-put_value-count
slice_bounds-put_value-count c = in! (s₁ c)

pub slice_bounds-put_value-start : goal.slice_bounds-put_value-start
slice_bounds-put_value-start c = in! (s₁ c)

pub slice_bounds-put_value-end : goal.slice_bounds-put_value-end
slice_bounds-put_value-end c = le_refl _

pub put_value-requires : goal.put_value-requires
put_value-requires c = c.requires

pub returns-in_err-b : goal.returns-in_err-b
returns-in_err-b c =
    failed c.from_residual-in_err-b.ensures.0
    (stop! (s₁ (goal.at.returns-in_err-b c).In_ok-a) c.put_value.ensures c.in_err-b.was)

pub overflow_add-ab : goal.overflow_add-ab
overflow_add-ab c = fit! (s₂ c) c.well_formed.0.0

pub shape_of-out : goal.shape_of-out
shape_of-out c = same! (s₂ c)

pub returns : goal.returns
returns c = all (s₂ c).left
