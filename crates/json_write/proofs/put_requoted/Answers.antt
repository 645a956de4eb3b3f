use Rattle.output.proofs.Laws.{failed}
use Rattle.json_text.specs.Compact.{spelled_all}
use Rattle.json_strings.specs.Decoded.{text_at}
use native.Mathlib.Nat.{le_refl}
use mathlib.Core.List.{[], ◌∷◌}
use Rattle.output.proofs.Laws.{puts-as}
use Rattle.json_write.proofs.Spelling.{quoted-row}
use Rattle.output.proofs.Rows.{Here, first!, next!, none, stop!, all, in!, fit!, same! }
use Rattle.json_write.proofs.put_requoted.Goals as goal
use Rattle.json_write.proofs.put_requoted.Goals.{In_ok-a, In_ok-c, In_ok-b}

abbrev s₁ : In_ok-a → Here
s₁ c =
    let args = c.args in
    let put_byte = c.put_byte in
    first! (spelled_all (text_at args.s.now args.from) ∷ (34 ∷ []) ∷ []) put_byte.ensures c.in_ok-a.was

abbrev s₂ : In_ok-b → Here
s₂ c =
    next! (s₁ (goal.at.In_ok-b c).In_ok-a) c.put_respelled.ensures c.in_ok-b.was

abbrev s₃ : In_ok-c → Here
s₃ c =
    next! (s₂ (goal.at.In_ok-c c).In_ok-b) c.put_byte-2.ensures c.in_ok-c.was

pub returns-in_err-a : goal.returns-in_err-a
returns-in_err-a c =
    failed c.from_residual.ensures.0
    (puts-as (quoted-row (text_at c.args.s.now c.args.from)) (none _ c.put_byte.ensures c.in_err-a.was))

pub slice_bounds-put_respelled-count : goal.slice_bounds-put_respelled-count
slice_bounds-put_respelled-count c = in! (s₁ c)

pub slice_bounds-put_respelled-start : goal.slice_bounds-put_respelled-start
slice_bounds-put_respelled-start c = in! (s₁ c)

pub slice_bounds-put_respelled-end : goal.slice_bounds-put_respelled-end
slice_bounds-put_respelled-end c = le_refl _

pub returns-in_err-b : goal.returns-in_err-b
returns-in_err-b c =
    failed c.from_residual-in_err-b.ensures.0
    (let args = c.args in
    let put-respelled = c.put_respelled in
    puts-as (quoted-row (text_at args.s.now args.from))
    (stop! (s₁ (goal.at.returns-in_err-b c).In_ok-a) put-respelled.ensures c.in_err-b.was))

pub overflow_add-ab : goal.overflow_add-ab
overflow_add-ab c = fit! (s₂ c) c.well_formed.0.0

pub slice_bounds-put_byte-count : goal.slice_bounds-put_byte-count
slice_bounds-put_byte-count c = in! (s₂ c)

pub slice_bounds-put_byte-start : goal.slice_bounds-put_byte-start
slice_bounds-put_byte-start c = in! (s₂ c)

pub slice_bounds-put_byte-end : goal.slice_bounds-put_byte-end
slice_bounds-put_byte-end c = le_refl _

pub returns-in_err-c : goal.returns-in_err-c
returns-in_err-c c =
    failed c.from_residual-in_err-c.ensures.0
    (let args = c.args in
    let put-byte2 = c.put_byte-2 in
    puts-as (quoted-row (text_at args.s.now args.from))
    (stop! (s₂ (goal.at.returns-in_err-c c).In_ok-b) put-byte2.ensures c.in_err-c.was))

pub overflow_add-abc : goal.overflow_add-abc
overflow_add-abc c = fit! (s₃ c) c.well_formed.0.0

pub shape_of-out : goal.shape_of-out
shape_of-out c = same! (s₃ c)

pub returns : goal.returns
returns c =
    let args = c.args in
    puts-as (quoted-row (text_at args.s.now args.from)) (all (s₃ c).left)
