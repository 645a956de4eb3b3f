use Rattle.output.proofs.Laws.{failed}
use Rattle.to_json_head.proofs.Uids.{start-bytes}
use Rattle.output.proofs.Laws.{puts-as}
use Rattle.json_text.specs.Compact.{quoted}
use Rattle.to_json_head.specs.Head.{uid_of}
use native.Mathlib.Nat.{le_refl}
use mathlib.Core.List.{[], ◌∷◌}
use Rattle.output.proofs.Rows.{Here, first!, next!, none, stop!, all, in!, fit!, same! }
use Rattle.to_json_head.proofs.put_start.Goals as goal
use Rattle.to_json_head.proofs.put_start.Goals.{In_ok-a, In_ok-b}

abbrev s₁ : In_ok-a → Here
s₁ c =
    first! (quoted (uid_of c.args.given c.args.uid.now c.args.stem.now c.args.number) [] ∷ []) c.put_text.ensures c.in_ok-a.was

abbrev s₂ : In_ok-b → Here
s₂ c =
    next! (s₁ (goal.at.In_ok-b c).In_ok-a) c.put_uid.ensures c.in_ok-b.was

pub returns-in_err-a : goal.returns-in_err-a
returns-in_err-a c =
    failed c.from_residual.ensures.0
    (puts-as (start-bytes (uid_of c.args.given c.args.uid.now c.args.stem.now c.args.number)) (none _ c.put_text.ensures c.in_err-a.was))

pub slice_bounds-put_uid-count : goal.slice_bounds-put_uid-count
slice_bounds-put_uid-count c = in! (s₁ c)

pub slice_bounds-put_uid-start : goal.slice_bounds-put_uid-start
slice_bounds-put_uid-start c = in! (s₁ c)

pub slice_bounds-put_uid-end : goal.slice_bounds-put_uid-end
slice_bounds-put_uid-end c = le_refl _

pub returns-in_err-b : goal.returns-in_err-b
returns-in_err-b c =
    failed c.from_residual-in_err-b.ensures.0
    (puts-as (start-bytes (uid_of c.args.given c.args.uid.now c.args.stem.now c.args.number)) (stop! (s₁ (goal.at.returns-in_err-b c).In_ok-a) c.put_uid.ensures c.in_err-b.was))

pub overflow_add-ab : goal.overflow_add-ab
overflow_add-ab c = fit! (s₂ c) c.well_formed.0.0

pub shape_of-out : goal.shape_of-out
shape_of-out c = same! (s₂ c)

pub returns : goal.returns
returns c =
    puts-as (start-bytes (uid_of c.args.given c.args.uid.now c.args.stem.now c.args.number)) (all (s₂ c).left)
