use Rattle.output.proofs.Laws.{failed}
-- Five pieces in a row: a quote, the spelled stem, a hyphen, the number, a quote. `s₁` to `s₅` say after each call what is written and which pieces
-- are still to come. `made_bytes` says that the five are the JSON string of made_uid: a hyphen and digits are spelled as they are, and spelling goes
-- byte by byte. Full comes from the first call (`none`) or from one of the four others (`stop!`).
use Rattle.to_json_head.proofs.Uids.{made_bytes}
use Rattle.output.proofs.Laws.{puts-as}
use Rattle.json_text.specs.Compact.{spelled_all}
use Rattle.text.specs.Decimal.{decimal}
use native.Mathlib.Nat.{le_refl}
use mathlib.Core.List.{[], ◌∷◌}
use Rattle.output.proofs.Rows.{Here, first!, next!, none, stop!, all, in!, fit!, same! }
use Rattle.to_json_head.proofs.put_made_uid.Goals as goal
use Rattle.to_json_head.proofs.put_made_uid.Goals.{In_ok-a, In_ok-c, In_ok-e, In_ok-d, In_ok-b}

abbrev s₁ : In_ok-a → Here
s₁ c =
    let args = c.args in
    let put_byte = c.put_byte in
    first! (spelled_all args.stem.now ∷ (45 ∷ []) ∷ decimal args.number ∷ (34 ∷ []) ∷ []) put_byte.ensures c.in_ok-a.was

abbrev s₂ : In_ok-b → Here
s₂ c =
    next! (s₁ (goal.at.In_ok-b c).In_ok-a) c.put_spelled.ensures c.in_ok-b.was

abbrev s₃ : In_ok-c → Here
s₃ c =
    next! (s₂ (goal.at.In_ok-c c).In_ok-b) c.put_byte-2.ensures c.in_ok-c.was

abbrev s₄ : In_ok-d → Here
s₄ c =
    next! (s₃ (goal.at.In_ok-d c).In_ok-c) c.put_number.ensures c.in_ok-d.was

abbrev s₅ : In_ok-e → Here
s₅ c =
    next! (s₄ (goal.at.In_ok-e c).In_ok-d) c.put_byte-3.ensures c.in_ok-e.was

pub returns-in_err-a : goal.returns-in_err-a
returns-in_err-a c =
    failed c.from_residual.ensures.0
    (puts-as (made_bytes c.args.stem.now c.args.number) (none _ c.put_byte.ensures c.in_err-a.was))

pub slice_bounds-put_spelled-count : goal.slice_bounds-put_spelled-count
slice_bounds-put_spelled-count c = in! (s₁ c)

pub slice_bounds-put_spelled-start : goal.slice_bounds-put_spelled-start
slice_bounds-put_spelled-start c = in! (s₁ c)

pub slice_bounds-put_spelled-end : goal.slice_bounds-put_spelled-end
slice_bounds-put_spelled-end c = le_refl _

pub returns-in_err-b : goal.returns-in_err-b
returns-in_err-b c =
    failed c.from_residual-in_err-b.ensures.0
    (puts-as (made_bytes c.args.stem.now c.args.number) (stop! (s₁ (goal.at.returns-in_err-b c).In_ok-a) c.put_spelled.ensures c.in_err-b.was))

pub overflow_add-ab : goal.overflow_add-ab
overflow_add-ab c = fit! (s₂ c) c.well_formed.0.0

pub slice_bounds-put_byte-count : goal.slice_bounds-put_byte-count
slice_bounds-put_byte-count c = in! (s₂ c)

pub slice_bounds-put_byte-start : goal.slice_bounds-put_byte-start
slice_bounds-put_byte-start c = in! (s₂ c)

pub slice_bounds-put_byte-end : goal.slice_bounds-put_byte-end
slice_bounds-put_byte-end c = le_refl _

pub returns-in_err-c : goal.returns-in_err-c
returns-in_err-c c =
    failed c.from_residual-in_err-c.ensures.0
    (puts-as (made_bytes c.args.stem.now c.args.number) (stop! (s₂ (goal.at.returns-in_err-c c).In_ok-b) c.put_byte-2.ensures c.in_err-c.was))

pub overflow_add-ac : goal.overflow_add-ac
overflow_add-ac c = fit! (s₃ c) c.well_formed.0.0

pub slice_bounds-put_number-count : goal.slice_bounds-put_number-count
slice_bounds-put_number-count c = in! (s₃ c)

pub slice_bounds-put_number-start : goal.slice_bounds-put_number-start
slice_bounds-put_number-start c = in! (s₃ c)

pub slice_bounds-put_number-end : goal.slice_bounds-put_number-end
slice_bounds-put_number-end c = le_refl _

pub returns-in_err-d : goal.returns-in_err-d
returns-in_err-d c =
    failed c.from_residual-in_err-d.ensures.0
    (puts-as (made_bytes c.args.stem.now c.args.number) (stop! (s₃ (goal.at.returns-in_err-d c).In_ok-c) c.put_number.ensures c.in_err-d.was))

pub overflow_add-ad : goal.overflow_add-ad
overflow_add-ad c = fit! (s₄ c) c.well_formed.0.0

pub slice_bounds-put_byte-count-2 : goal.slice_bounds-put_byte-count-2
slice_bounds-put_byte-count-2 c = in! (s₄ c)

pub slice_bounds-put_byte-start-2 : goal.slice_bounds-put_byte-start-2
slice_bounds-put_byte-start-2 c = in! (s₄ c)

pub slice_bounds-put_byte-end-2 : goal.slice_bounds-put_byte-end-2
slice_bounds-put_byte-end-2 c = le_refl _

pub returns-in_err-e : goal.returns-in_err-e
returns-in_err-e c =
    failed c.from_residual-in_err-e.ensures.0
    (puts-as (made_bytes c.args.stem.now c.args.number) (stop! (s₄ (goal.at.returns-in_err-e c).In_ok-d) c.put_byte-3.ensures c.in_err-e.was))

pub overflow_add-ae : goal.overflow_add-ae
overflow_add-ae c =
    let good = c.well_formed in
    fit! (s₅ c) good.0.0

pub shape_of-out : goal.shape_of-out
shape_of-out c = same! (s₅ c)

pub returns : goal.returns
returns c =
    puts-as (made_bytes c.args.stem.now c.args.number) (all (s₅ c).left)
