use Rattle.output.proofs.Laws.{failed}
-- Three pieces in a row: a quote, the bytes in lower case, a quote. `s₁`, `s₂` and `s₃` say after each call what is written and which pieces are
-- still to come. `quoted-row` says that the three are the JSON string of `lowered`. Full comes from the first quote (`none`), else from `stop!`.
use Rattle.json_text.specs.Compact.{spelled_all}
use Rattle.text.specs.Bytes.{lowered}
use native.Mathlib.Nat.{le_refl}
use mathlib.Core.List.{[], ◌∷◌}
use Rattle.output.proofs.Laws.{puts-as}
use Rattle.json_write.proofs.Spelling.{quoted-row}
use Rattle.output.proofs.Rows.{Here, first!, next!, none, stop!, all, in!, fit!, same! }
use Rattle.to_json_kept_values.proofs.put_lower.Goals as goal
use Rattle.to_json_kept_values.proofs.put_lower.Goals.{In_ok-a, In_ok-c, In_ok-b}

abbrev s₁ : In_ok-a → Here
s₁ c = first! (spelled_all (lowered c.args.s.now) ∷ (34 ∷ []) ∷ []) c.put_byte.ensures c.in_ok-a.was

abbrev s₂ : In_ok-b → Here
s₂ c =
    next! (s₁ (goal.at.In_ok-b c).In_ok-a) c.spell_lower.ensures c.in_ok-b.was

abbrev s₃ : In_ok-c → Here
s₃ c =
    next! (s₂ (goal.at.In_ok-c c).In_ok-b) c.put_byte-2.ensures c.in_ok-c.was

pub returns-in_err-a : goal.returns-in_err-a
returns-in_err-a c =
    failed c.from_residual.ensures.0
    (puts-as (quoted-row (lowered c.args.s.now)) (none _ c.put_byte.ensures c.in_err-a.was))

pub slice_bounds-spell_lower-count : goal.slice_bounds-spell_lower-count
slice_bounds-spell_lower-count c = in! (s₁ c)

pub slice_bounds-spell_lower-start : goal.slice_bounds-spell_lower-start
slice_bounds-spell_lower-start c = in! (s₁ c)

pub slice_bounds-spell_lower-end : goal.slice_bounds-spell_lower-end
slice_bounds-spell_lower-end c = le_refl _

pub returns-in_err-b : goal.returns-in_err-b
returns-in_err-b c =
    failed c.from_residual-in_err-b.ensures.0
    (puts-as (quoted-row (lowered c.args.s.now)) (stop! (s₁ (goal.at.returns-in_err-b c).In_ok-a) c.spell_lower.ensures c.in_err-b.was))

pub overflow_add-ab : goal.overflow_add-ab
overflow_add-ab c = fit! (s₂ c) c.well_formed.0.0

pub slice_bounds-put_byte-count : goal.slice_bounds-put_byte-count
slice_bounds-put_byte-count c = in! (s₂ c)

pub slice_bounds-put_byte-start : goal.slice_bounds-put_byte-start
slice_bounds-put_byte-start c = in! (s₂ c)

pub slice_bounds-put_byte-end : goal.slice_bounds-put_byte-end
slice_bounds-put_byte-end c = le_refl _

pub returns-in_err-c : goal.returns-in_err-c
returns-in_err-c c =
    failed c.from_residual-in_err-c.ensures.0
    (puts-as (quoted-row (lowered c.args.s.now)) (stop! (s₂ (goal.at.returns-in_err-c c).In_ok-b) c.put_byte-2.ensures c.in_err-c.was))

pub overflow_add-abc : goal.overflow_add-abc
overflow_add-abc c = fit! (s₃ c) c.well_formed.0.0

pub shape_of-out : goal.shape_of-out
shape_of-out c = same! (s₃ c)

pub returns : goal.returns
returns c = puts-as (quoted-row (lowered c.args.s.now)) (all (s₃ c).left)
