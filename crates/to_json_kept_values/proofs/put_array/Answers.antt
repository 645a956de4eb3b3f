use Rattle.output.proofs.Laws.{failed}
-- Three pieces in a row: a bracket, the values of the name that stands from a to b, a bracket. `s₁`, `s₂` and `s₃` say after each call what is
-- written and which pieces are still to come: `list_from` of `values_named`, then the bracket. Full comes from the first call (`none`), else from
-- `stop!`.
use Rattle.line.specs.Params.{values_named}
use mathlib.Core.Bool.{false}
use Rattle.line_table.specs.Table.{part, line_in}
use Rattle.to_json_kept_values.specs.Kept.{list_from}
use Rattle.text.specs.Bytes.{lowered}
use native.Mathlib.Nat.{le_refl}
use mathlib.Core.List.{[], ◌∷◌}
use Rattle.output.proofs.Rows.{Here, first!, next!, none, stop!, all, in!, fit!, same! }
use Rattle.to_json_kept_values.proofs.put_array.Goals as goal
use Rattle.to_json_kept_values.proofs.put_array.Goals.{In_ok-x, In_ok-z, In_ok-y}

abbrev s₁ : In_ok-x → Here
s₁ c =
    let args = c.args in
    let put_byte = c.put_byte in
    first!
    (list_from false (values_named (lowered (part args.s.now args.a args.b)) (line_in args.s.now args.t.now).params) ∷
    (93 ∷ []) ∷ [])
    put_byte.ensures c.in_ok-x.was

abbrev s₂ : In_ok-y → Here
s₂ c =
    next! (s₁ (goal.at.In_ok-y c).In_ok-x) c.put_list.ensures c.in_ok-y.was

abbrev s₃ : In_ok-z → Here
s₃ c =
    next! (s₂ (goal.at.In_ok-z c).In_ok-y) c.put_byte-2.ensures c.in_ok-z.was

pub returns-in_err-x : goal.returns-in_err-x
returns-in_err-x c =
    failed c.from_residual.ensures.0
    (none _ c.put_byte.ensures c.in_err-x.was)

pub slice_bounds-put_list-count : goal.slice_bounds-put_list-count
slice_bounds-put_list-count c = in! (s₁ c)

pub slice_bounds-put_list-start : goal.slice_bounds-put_list-start
slice_bounds-put_list-start c = in! (s₁ c)

pub slice_bounds-put_list-end : goal.slice_bounds-put_list-end
slice_bounds-put_list-end c = le_refl _

pub returns-in_err-y : goal.returns-in_err-y
returns-in_err-y c =
    failed c.from_residual-in_err-y.ensures.0
    (stop! (s₁ (goal.at.returns-in_err-y c).In_ok-x) c.put_list.ensures c.in_err-y.was)

pub overflow_add-xy : goal.overflow_add-xy
overflow_add-xy c = fit! (s₂ c) c.well_formed.0.0

pub slice_bounds-put_byte-count : goal.slice_bounds-put_byte-count
slice_bounds-put_byte-count c = in! (s₂ c)

pub slice_bounds-put_byte-start : goal.slice_bounds-put_byte-start
slice_bounds-put_byte-start c = in! (s₂ c)

pub slice_bounds-put_byte-end : goal.slice_bounds-put_byte-end
slice_bounds-put_byte-end c = le_refl _

pub returns-in_err-z : goal.returns-in_err-z
returns-in_err-z c =
    failed c.from_residual-in_err-z.ensures.0
    (stop! (s₂ (goal.at.returns-in_err-z c).In_ok-y) c.put_byte-2.ensures c.in_err-z.was)

pub overflow_add-xyz : goal.overflow_add-xyz
overflow_add-xyz c = fit! (s₃ c) c.well_formed.0.0

pub shape_of-out : goal.shape_of-out
shape_of-out c = same! (s₃ c)

pub returns : goal.returns
returns c = all (s₃ c).left
