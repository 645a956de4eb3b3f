use Rattle.output.proofs.Laws.{failed}
-- Four pieces in a row: the member's head, full or nothing, components or nothing, the brace. `s₁` to `s₄` say after each call what is written and
-- which pieces are still to come (`full_piece`, `parts_piece`). A name that can be read has good parts (`good-name`): put_parts_if asks for that
-- where there is an N. Full comes from the head (`none`) or from one of the three others (`stop!`).
use Rattle.to_json_name.proofs.Names.{good-name}
use Rattle.to_json_name.specs.Name.{full_piece, parts_piece}
use native.Mathlib.Nat.{le_refl}
use mathlib.Core.List.{[], ◌∷◌}
use Rattle.output.proofs.Rows.{Here, first!, next!, none, stop!, all, in!, fit!, same! }
use Rattle.to_json_name.proofs.put_name_member.Goals as goal
use Rattle.to_json_name.proofs.put_name_member.Goals.{In_ok-a, In_ok-d, In_ok-b, In_ok-c}

abbrev s₁ : In_ok-a → Here
s₁ c =
    first! (full_piece c.args.full c.args.fv.now ∷ parts_piece c.args.full c.args.parts c.args.nv.now ∷ (125 ∷ []) ∷ []) c.put_text.ensures c.in_ok-a.was

abbrev s₂ : In_ok-b → Here
s₂ c =
    next! (s₁ (goal.at.In_ok-b c).In_ok-a) c.put_full_if.ensures c.in_ok-b.was

abbrev s₃ : In_ok-c → Here
s₃ c =
    next! (s₂ (goal.at.In_ok-c c).In_ok-b) c.put_parts_if.ensures c.in_ok-c.was

abbrev s₄ : In_ok-d → Here
s₄ c =
    next! (s₃ (goal.at.In_ok-d c).In_ok-c) c.put_byte.ensures c.in_ok-d.was

pub returns-in_err-a : goal.returns-in_err-a
returns-in_err-a c =
    failed c.from_residual.ensures.0
    (none _ c.put_text.ensures c.in_err-a.was)

pub slice_bounds-put_full_if-count : goal.slice_bounds-put_full_if-count
slice_bounds-put_full_if-count c = in! (s₁ c)

pub slice_bounds-put_full_if-start : goal.slice_bounds-put_full_if-start
slice_bounds-put_full_if-start c = in! (s₁ c)

pub slice_bounds-put_full_if-end : goal.slice_bounds-put_full_if-end
slice_bounds-put_full_if-end c = le_refl _

pub put_full_if-requires : goal.put_full_if-requires
put_full_if-requires c = c.requires.text

pub returns-in_err-b : goal.returns-in_err-b
returns-in_err-b c =
    failed c.from_residual-in_err-b.ensures.0
    (stop! (s₁ (goal.at.returns-in_err-b c).In_ok-a) c.put_full_if.ensures c.in_err-b.was)

pub overflow_add-ab : goal.overflow_add-ab
overflow_add-ab c = fit! (s₂ c) c.well_formed.0.0

pub slice_bounds-put_parts_if-count : goal.slice_bounds-put_parts_if-count
slice_bounds-put_parts_if-count c = in! (s₂ c)

pub slice_bounds-put_parts_if-start : goal.slice_bounds-put_parts_if-start
slice_bounds-put_parts_if-start c = in! (s₂ c)

pub slice_bounds-put_parts_if-end : goal.slice_bounds-put_parts_if-end
slice_bounds-put_parts_if-end c = le_refl _

pub put_parts_if-requires : goal.put_parts_if-requires
put_parts_if-requires c =
    let args = c.args in
    let pre = c.requires in
    λ e. good-name args.nv.now (pre.name e)

pub returns-in_err-c : goal.returns-in_err-c
returns-in_err-c c =
    failed c.from_residual-in_err-c.ensures.0
    (stop! (s₂ (goal.at.returns-in_err-c c).In_ok-b) c.put_parts_if.ensures c.in_err-c.was)

pub overflow_add-ac : goal.overflow_add-ac
overflow_add-ac c = fit! (s₃ c) c.well_formed.0.0

pub slice_bounds-put_byte-count : goal.slice_bounds-put_byte-count
slice_bounds-put_byte-count c = in! (s₃ c)

pub slice_bounds-put_byte-start : goal.slice_bounds-put_byte-start
slice_bounds-put_byte-start c = in! (s₃ c)

pub slice_bounds-put_byte-end : goal.slice_bounds-put_byte-end
slice_bounds-put_byte-end c = le_refl _

pub returns-in_err-d : goal.returns-in_err-d
returns-in_err-d c =
    failed c.from_residual-in_err-d.ensures.0
    (stop! (s₃ (goal.at.returns-in_err-d c).In_ok-c) c.put_byte.ensures c.in_err-d.was)

pub overflow_add-ad : goal.overflow_add-ad
overflow_add-ad c = fit! (s₄ c) c.well_formed.0.0

pub shape_of-out : goal.shape_of-out
shape_of-out c = same! (s₄ c)

pub returns : goal.returns
returns c = all (s₄ c).left
