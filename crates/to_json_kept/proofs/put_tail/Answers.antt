use Rattle.output.proofs.Laws.{failed}
-- Five pieces in a row: a brace and a comma, the type, a comma, the value's string, a bracket. `s₁` to `s₅` say after each call what is written and
-- which pieces are still to come; they are tail_piece by its definition (`all`). The type is VALUE in lower case, or unknown (put_type, by
-- `value_type`). Full comes from the first call (`none`) or from one of the four others (`stop!`).
use Rattle.json_text.specs.Compact.{quoted}
use Rattle.line.specs.Params.{value_type}
use Rattle.line_table.specs.Table.{line_in}
use native.Mathlib.Nat.{le_refl}
use mathlib.Core.List.{[], ◌∷◌}
use Rattle.output.proofs.Rows.{Here, first!, next!, none, stop!, all, in!, fit!, same! }
use Rattle.to_json_kept.proofs.put_tail.Goals as goal
use Rattle.to_json_kept.proofs.put_tail.Goals.{In_ok-a, In_ok-c, In_ok-e, In_ok-d, In_ok-b}

abbrev s₁ : In_ok-a → Here
s₁ c =
    first! (quoted (value_type (line_in c.args.s.now c.args.t.now).params) [] ∷ (44 ∷ []) ∷ quoted c.args.value.now [] ∷ (93 ∷ []) ∷ []) c.put_text.ensures c.in_ok-a.was

abbrev s₂ : In_ok-b → Here
s₂ c =
    next! (s₁ (goal.at.In_ok-b c).In_ok-a) c.put_type.ensures c.in_ok-b.was

abbrev s₃ : In_ok-c → Here
s₃ c =
    next! (s₂ (goal.at.In_ok-c c).In_ok-b) c.put_byte.ensures c.in_ok-c.was

abbrev s₄ : In_ok-d → Here
s₄ c =
    next! (s₃ (goal.at.In_ok-d c).In_ok-c) c.put_string.ensures c.in_ok-d.was

abbrev s₅ : In_ok-e → Here
s₅ c =
    next! (s₄ (goal.at.In_ok-e c).In_ok-d) c.put_byte-2.ensures c.in_ok-e.was

pub returns-in_err-a : goal.returns-in_err-a
returns-in_err-a c =
    failed c.from_residual.ensures.0
    (none _ c.put_text.ensures c.in_err-a.was)

pub slice_bounds-put_type-count : goal.slice_bounds-put_type-count
slice_bounds-put_type-count c = in! (s₁ c)

pub slice_bounds-put_type-start : goal.slice_bounds-put_type-start
slice_bounds-put_type-start c = in! (s₁ c)

pub slice_bounds-put_type-end : goal.slice_bounds-put_type-end
slice_bounds-put_type-end c = le_refl _

pub put_type-requires : goal.put_type-requires
put_type-requires c = c.requires

pub returns-in_err-b : goal.returns-in_err-b
returns-in_err-b c =
    failed c.from_residual-in_err-b.ensures.0
    (stop! (s₁ (goal.at.returns-in_err-b c).In_ok-a) c.put_type.ensures c.in_err-b.was)

pub overflow_add-ab : goal.overflow_add-ab
overflow_add-ab c = fit! (s₂ c) c.well_formed.0.0

pub slice_bounds-put_byte-count : goal.slice_bounds-put_byte-count
slice_bounds-put_byte-count c = in! (s₂ c)

pub slice_bounds-put_byte-start : goal.slice_bounds-put_byte-start
slice_bounds-put_byte-start c = in! (s₂ c)

pub slice_bounds-put_byte-end : goal.slice_bounds-put_byte-end
slice_bounds-put_byte-end c = le_refl _

pub returns-in_err-c : goal.returns-in_err-c
returns-in_err-c c =
    failed c.from_residual-in_err-c.ensures.0
    (stop! (s₂ (goal.at.returns-in_err-c c).In_ok-b) c.put_byte.ensures c.in_err-c.was)

pub overflow_add-ac : goal.overflow_add-ac
overflow_add-ac c = fit! (s₃ c) c.well_formed.0.0

pub slice_bounds-put_string-count : goal.slice_bounds-put_string-count
slice_bounds-put_string-count c = in! (s₃ c)

pub slice_bounds-put_string-start : goal.slice_bounds-put_string-start
slice_bounds-put_string-start c = in! (s₃ c)

pub slice_bounds-put_string-end : goal.slice_bounds-put_string-end
slice_bounds-put_string-end c = le_refl _

pub returns-in_err-d : goal.returns-in_err-d
returns-in_err-d c =
    failed c.from_residual-in_err-d.ensures.0
    (stop! (s₃ (goal.at.returns-in_err-d c).In_ok-c) c.put_string.ensures c.in_err-d.was)

pub overflow_add-ad : goal.overflow_add-ad
overflow_add-ad c =
    let good = c.well_formed in
    fit! (s₄ c) good.0.0

pub slice_bounds-put_byte-count-2 : goal.slice_bounds-put_byte-count-2
slice_bounds-put_byte-count-2 c = in! (s₄ c)

pub slice_bounds-put_byte-start-2 : goal.slice_bounds-put_byte-start-2
slice_bounds-put_byte-start-2 c = in! (s₄ c)

pub slice_bounds-put_byte-end-2 : goal.slice_bounds-put_byte-end-2
slice_bounds-put_byte-end-2 c = le_refl _

pub returns-in_err-e : goal.returns-in_err-e
returns-in_err-e c =
    failed c.from_residual-in_err-e.ensures.0
    (stop! (s₄ (goal.at.returns-in_err-e c).In_ok-d) c.put_byte-2.ensures c.in_err-e.was)

pub overflow_add-ae : goal.overflow_add-ae
overflow_add-ae c =
    let good = c.well_formed in
    fit! (s₅ c) good.0.0

pub shape_of-out : goal.shape_of-out
shape_of-out c = same! (s₅ c)

pub returns : goal.returns
returns c = all (s₅ c).left
