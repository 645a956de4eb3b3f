use Rattle.output.proofs.Laws.{failed}
-- Four pieces in a row: a comma where a member came before, the name in lower case, a colon, all values of that name. `s₁` to `s₄` say after each
-- call what is written and which pieces are still to come; they are param_piece by its definition (`all`). The name is the part of s from a to b,
-- which is within s by its Span. Full comes from the comma (`none`) or from one of the three others (`stop!`).
use Rattle.json_text.specs.Compact.{written}
use Rattle.line_table.specs.Table.{part, line_in}
use native.Mathlib.Omega.{arith}
use Rattle.convert.specs.ToJson.{values_json}
use Rattle.json_text.specs.Compact.{quoted}
use Rattle.line.specs.Params.{values_named}
use Rattle.text.specs.Bytes.{lowered}
use native.Mathlib.Nat.{le_refl}
use mathlib.Core.List.{[], ◌∷◌}
use Rattle.output.proofs.Rows.{Here, first!, next!, none, stop!, all, in!, fit!, same! }
use Rattle.to_json_kept.proofs.put_param.Goals as goal
use Rattle.to_json_kept.proofs.put_param.Goals.{In_ok-c, In_ok-e, In_ok-d, In_ok-f}

abbrev s₁ : In_ok-c → Here
s₁ c =
    first!
    (quoted (lowered (part c.args.s.now c.args.a c.args.b)) [] ∷ (58 ∷ []) ∷ written
    (values_json
    (values_named (lowered (part c.args.s.now c.args.a c.args.b))
    (line_in c.args.s.now c.args.t.now).params))
    [] ∷ [])
    c.put_comma.ensures c.in_ok-c.was

abbrev s₂ : In_ok-d → Here
s₂ c =
    next! (s₁ (goal.at.In_ok-d c).In_ok-c) c.put_lower.ensures c.in_ok-d.was

abbrev s₃ : In_ok-e → Here
s₃ c =
    next! (s₂ (goal.at.In_ok-e c).In_ok-d) c.put_byte.ensures c.in_ok-e.was

abbrev s₄ : In_ok-f → Here
s₄ c =
    next! (s₃ (goal.at.In_ok-f c).In_ok-e) c.put_values.ensures c.in_ok-f.was

pub returns-in_err-c : goal.returns-in_err-c
returns-in_err-c c =
    failed c.from_residual.ensures.0
    (none _ c.put_comma.ensures c.in_err-c.was)

pub slice_bounds-put_lower-count : goal.slice_bounds-put_lower-count
slice_bounds-put_lower-count c = in! (s₁ c)

pub slice_bounds-put_lower-start : goal.slice_bounds-put_lower-start
slice_bounds-put_lower-start c = in! (s₁ c)

pub slice_bounds-put_lower-end : goal.slice_bounds-put_lower-end
slice_bounds-put_lower-end c = le_refl _

pub slice_bounds-put_lower-count-2 : goal.slice_bounds-put_lower-count-2
slice_bounds-put_lower-count-2 c = omega (arith, c.requires.1.ordered, c.requires.1.within)

pub slice_bounds-put_lower-start-2 : goal.slice_bounds-put_lower-start-2
slice_bounds-put_lower-start-2 c = omega (arith, c.requires.1.ordered, c.requires.1.within)

pub slice_bounds-put_lower-end-2 : goal.slice_bounds-put_lower-end-2
slice_bounds-put_lower-end-2 c = omega (arith, c.requires.1.ordered, c.requires.1.within)

pub returns-in_err-d : goal.returns-in_err-d
returns-in_err-d c =
    failed c.from_residual-in_err-d.ensures.0
    (stop! (s₁ (goal.at.returns-in_err-d c).In_ok-c) c.put_lower.ensures c.in_err-d.was)

pub overflow_add-cd : goal.overflow_add-cd
overflow_add-cd c = fit! (s₂ c) c.well_formed.0.0

pub slice_bounds-put_byte-count : goal.slice_bounds-put_byte-count
slice_bounds-put_byte-count c = in! (s₂ c)

pub slice_bounds-put_byte-start : goal.slice_bounds-put_byte-start
slice_bounds-put_byte-start c = in! (s₂ c)

pub slice_bounds-put_byte-end : goal.slice_bounds-put_byte-end
slice_bounds-put_byte-end c = le_refl _

pub returns-in_err-e : goal.returns-in_err-e
returns-in_err-e c =
    failed c.from_residual-in_err-e.ensures.0
    (stop! (s₂ (goal.at.returns-in_err-e c).In_ok-d) c.put_byte.ensures c.in_err-e.was)

pub overflow_add-ce : goal.overflow_add-ce
overflow_add-ce c = fit! (s₃ c) c.well_formed.0.0

pub slice_bounds-put_values-count : goal.slice_bounds-put_values-count
slice_bounds-put_values-count c = in! (s₃ c)

pub slice_bounds-put_values-start : goal.slice_bounds-put_values-start
slice_bounds-put_values-start c = in! (s₃ c)

pub slice_bounds-put_values-end : goal.slice_bounds-put_values-end
slice_bounds-put_values-end c = le_refl _

pub put_values-requires : goal.put_values-requires
put_values-requires c = c.requires

pub returns-in_err-f : goal.returns-in_err-f
returns-in_err-f c =
    failed c.from_residual-in_err-f.ensures.0
    (stop! (s₃ (goal.at.returns-in_err-f c).In_ok-e) c.put_values.ensures c.in_err-f.was)

pub overflow_add-cf : goal.overflow_add-cf
overflow_add-cf c = fit! (s₄ c) c.well_formed.0.0

pub shape_of-out : goal.shape_of-out
shape_of-out c = same! (s₄ c)

pub returns : goal.returns
returns c = all (s₄ c).left
