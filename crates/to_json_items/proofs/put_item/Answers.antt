use Rattle.output.proofs.Laws.{failed}
-- Four pieces in a row: what stands before the item, its `lead` with the kind or the name, the string of the TEXT, the brace; `s₁` to `s₄` say
-- after each call what is written and which pieces are still to come. They are item_piece by its definition, so nothing is said anew at the end
-- (`all`). Full comes from the first call (`none`) or from one of the three others (`stop!`).
use Rattle.json_text.specs.Compact.{quoted}
use Rattle.line_text.specs.Read.{plain_text}
use Rattle.to_json_items.specs.Items.{lead}
use native.Mathlib.Nat.{le_refl}
use mathlib.Core.List.{[], ◌∷◌}
use Rattle.output.proofs.Rows.{Here, first!, next!, none, stop!, all, in!, fit!, same! }
use Rattle.to_json_items.proofs.put_item.Goals as goal
use Rattle.to_json_items.proofs.put_item.Goals.{In_ok-a, In_ok-d, In_ok-b, In_ok-c}

abbrev s₁ : In_ok-a → Here
s₁ c =
    let args = c.args in
    let put-item-head = c.put_item_head in
    first! (lead args.k ∷ quoted (plain_text args.u.now) [] ∷ (125 ∷ []) ∷ []) put-item-head.ensures c.in_ok-a.was

abbrev s₂ : In_ok-b → Here
s₂ c =
    next! (s₁ (goal.at.In_ok-b c).In_ok-a) c.put_lead.ensures c.in_ok-b.was

abbrev s₃ : In_ok-c → Here
s₃ c =
    next! (s₂ (goal.at.In_ok-c c).In_ok-b) c.put_plain.ensures c.in_ok-c.was

abbrev s₄ : In_ok-d → Here
s₄ c =
    next! (s₃ (goal.at.In_ok-d c).In_ok-c) c.put_byte.ensures c.in_ok-d.was

pub returns-in_err-a : goal.returns-in_err-a
returns-in_err-a c =
    failed c.from_residual.ensures.0
    (none _ c.put_item_head.ensures c.in_err-a.was)

pub slice_bounds-put_lead-count : goal.slice_bounds-put_lead-count
slice_bounds-put_lead-count c = in! (s₁ c)

pub slice_bounds-put_lead-start : goal.slice_bounds-put_lead-start
slice_bounds-put_lead-start c = in! (s₁ c)

pub slice_bounds-put_lead-end : goal.slice_bounds-put_lead-end
slice_bounds-put_lead-end c = le_refl _

pub returns-in_err-b : goal.returns-in_err-b
returns-in_err-b c =
    failed c.from_residual-in_err-b.ensures.0
    (stop! (s₁ (goal.at.returns-in_err-b c).In_ok-a) c.put_lead.ensures c.in_err-b.was)

pub overflow_add-ab : goal.overflow_add-ab
overflow_add-ab c = fit! (s₂ c) c.well_formed.0.0

pub slice_bounds-put_plain-count : goal.slice_bounds-put_plain-count
slice_bounds-put_plain-count c = in! (s₂ c)

pub slice_bounds-put_plain-start : goal.slice_bounds-put_plain-start
slice_bounds-put_plain-start c = in! (s₂ c)

pub slice_bounds-put_plain-end : goal.slice_bounds-put_plain-end
slice_bounds-put_plain-end c = le_refl _

pub put_plain-requires : goal.put_plain-requires
put_plain-requires c = c.requires

pub returns-in_err-c : goal.returns-in_err-c
returns-in_err-c c =
    failed c.from_residual-in_err-c.ensures.0
    (stop! (s₂ (goal.at.returns-in_err-c c).In_ok-b) c.put_plain.ensures c.in_err-c.was)

pub overflow_add-ac : goal.overflow_add-ac
overflow_add-ac c = fit! (s₃ c) c.well_formed.0.0

pub slice_bounds-put_byte-count : goal.slice_bounds-put_byte-count
slice_bounds-put_byte-count c = in! (s₃ c)

pub slice_bounds-put_byte-start : goal.slice_bounds-put_byte-start
slice_bounds-put_byte-start c = in! (s₃ c)

pub slice_bounds-put_byte-end : goal.slice_bounds-put_byte-end
slice_bounds-put_byte-end c = le_refl _

pub returns-in_err-d : goal.returns-in_err-d
returns-in_err-d c =
    failed c.from_residual-in_err-d.ensures.0
    (stop! (s₃ (goal.at.returns-in_err-d c).In_ok-c) c.put_byte.ensures c.in_err-d.was)

pub overflow_add-ad : goal.overflow_add-ad
overflow_add-ad c = fit! (s₄ c) c.well_formed.0.0

pub shape_of-out : goal.shape_of-out
shape_of-out c = same! (s₄ c)

pub returns : goal.returns
returns c = all (s₄ c).left
