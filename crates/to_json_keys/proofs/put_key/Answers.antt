use Rattle.output.proofs.Laws.{failed}
use Rattle.text.specs.Decimal.{decimal}
use native.Mathlib.Nat.{le_refl}
use mathlib.Core.List.{[], ◌∷◌}
use Rattle.output.proofs.Laws.{puts-as}
use Rattle.to_json_keys.proofs.Spelled.{key_row}
use Rattle.output.proofs.Rows.{Here, first!, next!, none, stop!, all, in!, fit!, same! }
use Rattle.to_json_keys.proofs.put_key.Goals as goal
use Rattle.to_json_keys.proofs.put_key.Goals.{In_ok-a, In_ok-b, In_ok-c}

abbrev s₁ : In_ok-a → Here
s₁ c = first! ((45 ∷ []) ∷ decimal c.args.n ∷ []) c.put_text.ensures c.in_ok-a.was

abbrev s₂ : In_ok-b → Here
s₂ c =
    next! (s₁ (goal.at.In_ok-b c).In_ok-a) c.put_byte.ensures c.in_ok-b.was

abbrev s₃ : In_ok-c → Here
s₃ c =
    next! (s₂ (goal.at.In_ok-c c).In_ok-b) c.put_number.ensures c.in_ok-c.was

pub returns-in_err-a : goal.returns-in_err-a
returns-in_err-a c =
    failed c.from_residual.ensures.0
    (let args = c.args in
    let put-text = c.put_text in
    puts-as (key_row args.prefix.now args.n) (none ((45 ∷ []) ∷ decimal args.n ∷ []) put-text.ensures c.in_err-a.was))

pub slice_bounds-put_byte-count : goal.slice_bounds-put_byte-count
slice_bounds-put_byte-count c = in! (s₁ c)

pub slice_bounds-put_byte-start : goal.slice_bounds-put_byte-start
slice_bounds-put_byte-start c = in! (s₁ c)

pub slice_bounds-put_byte-end : goal.slice_bounds-put_byte-end
slice_bounds-put_byte-end c = le_refl _

pub returns-in_err-b : goal.returns-in_err-b
returns-in_err-b c =
    failed c.from_residual-in_err-b.ensures.0
    (let args = c.args in
    let put_byte = c.put_byte in
    puts-as (key_row args.prefix.now args.n)
    (stop! (s₁ (goal.at.returns-in_err-b c).In_ok-a) put_byte.ensures c.in_err-b.was))

pub overflow_add-ab : goal.overflow_add-ab
overflow_add-ab c = fit! (s₂ c) c.well_formed.0.0

pub slice_bounds-put_number-count : goal.slice_bounds-put_number-count
slice_bounds-put_number-count c = in! (s₂ c)

pub slice_bounds-put_number-start : goal.slice_bounds-put_number-start
slice_bounds-put_number-start c = in! (s₂ c)

pub slice_bounds-put_number-end : goal.slice_bounds-put_number-end
slice_bounds-put_number-end c = le_refl _

pub returns-in_err-c : goal.returns-in_err-c
returns-in_err-c c =
    failed c.from_residual-in_err-c.ensures.0
    (let args = c.args in
    let put-number = c.put_number in
    puts-as (key_row args.prefix.now args.n)
    (stop! (s₂ (goal.at.returns-in_err-c c).In_ok-b) put-number.ensures c.in_err-c.was))

pub overflow_add-abc : goal.overflow_add-abc
overflow_add-abc c = fit! (s₃ c) c.well_formed.0.0

pub shape_of-out : goal.shape_of-out
shape_of-out c = same! (s₃ c)

pub returns : goal.returns
returns c =
    let args = c.args in
    puts-as (key_row args.prefix.now args.n) (all (s₃ c).left)
