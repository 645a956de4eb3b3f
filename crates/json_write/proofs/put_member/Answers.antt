use Rattle.output.proofs.Laws.{failed}
use native.Mathlib.Nat.{le_refl}
use mathlib.Core.List.{[], ◌∷◌}
use Rattle.json_text.specs.Compact.{quoted}
use Rattle.output.proofs.Laws.{puts-as}
use Rattle.json_write.proofs.Spelling.{member-row}
use Rattle.output.proofs.Rows.{Here, first!, next!, none, stop!, all, in!, fit!, same! }
use Rattle.json_write.proofs.put_member.Goals as goal
use Rattle.json_write.proofs.put_member.Goals.{In_ok-a, In_ok-b}

abbrev s₁ : In_ok-a → Here
s₁ c = first! (quoted c.args.text.now [] ∷ []) c.put_name.ensures c.in_ok-a.was

abbrev s₂ : In_ok-b → Here
s₂ c =
    next! (s₁ (goal.at.In_ok-b c).In_ok-a) c.put_string.ensures c.in_ok-b.was

pub returns-in_err-a : goal.returns-in_err-a
returns-in_err-a c =
    failed c.from_residual.ensures.0
    (let args = c.args in
    let put-name = c.put_name in
    puts-as (member-row args.name.now args.text.now) (none _ put-name.ensures c.in_err-a.was))

pub slice_bounds-put_string-count : goal.slice_bounds-put_string-count
slice_bounds-put_string-count c = in! (s₁ c)

pub slice_bounds-put_string-start : goal.slice_bounds-put_string-start
slice_bounds-put_string-start c = in! (s₁ c)

pub slice_bounds-put_string-end : goal.slice_bounds-put_string-end
slice_bounds-put_string-end c = le_refl _

pub returns-in_err-b : goal.returns-in_err-b
returns-in_err-b c =
    failed c.from_residual-in_err-b.ensures.0
    (let args = c.args in
    let put-string = c.put_string in
    puts-as (member-row args.name.now args.text.now)
    (stop! (s₁ (goal.at.returns-in_err-b c).In_ok-a) put-string.ensures c.in_err-b.was))

pub overflow_add-ab : goal.overflow_add-ab
overflow_add-ab c = fit! (s₂ c) c.well_formed.0.0

pub shape_of-out : goal.shape_of-out
shape_of-out c = same! (s₂ c)

pub returns : goal.returns
returns c =
    let args = c.args in
    puts-as (member-row args.name.now args.text.now) (all (s₂ c).left)
