use Rattle.output.proofs.Laws.{failed}
-- Three pieces in a row: the head, the parameters, the tail with type and value. `s₁`, `s₂` and `s₃` say after each call what is written and which
-- pieces are still to come. `kept-bytes` says that they are the compact entry of the kept line; that a group stands there is told by its place not
-- being empty. A table that is sound has its name, group and value within s: so the slices are good. Full comes from `none` or `stop!`.
use Rattle.to_json_kept.proofs.Whole.{kept-bytes}
use Rattle.line_table.specs.Table.{part, line_in}
use Rattle.output.proofs.Laws.{puts-as}
use native.Mathlib.Omega.{arith}
use lib.Dec.{ltb}
use lib.ListN.{get_or}
use mathlib.Core.List.{map}
use Rattle.convert.specs.FromCard.{kept_line}
use Rattle.convert.specs.ToJson.{param_json}
use Rattle.to_json_kept.specs.Entry.{tail_piece}
use Rattle.convert_put.specs.Pieces.{inside}
use native.Mathlib.Nat.{le_refl}
use mathlib.Core.List.{[], ◌∷◌}
use Rattle.output.proofs.Rows.{Here, first!, next!, none, stop!, all, in!, fit!, same! }
use Rattle.to_json_kept.proofs.put_kept.Goals as goal
use Rattle.to_json_kept.proofs.put_kept.Goals.{In_ok-x, In_ok-y, In_ok-z}

abbrev s₁ : In_ok-x → Here
s₁ c =
    first!
    (inside (ltb (get_or c.args.t.now 0 0) (get_or c.args.t.now 1 0))
    (map param_json (kept_line (line_in c.args.s.now c.args.t.now)).params) ∷ tail_piece c.args.s.now c.args.t.now
    (part c.args.s.now (get_or c.args.t.now 4 0) (get_or c.args.t.now 5 0)) ∷ [])
    c.put_head.ensures c.in_ok-x.was

abbrev s₂ : In_ok-y → Here
s₂ c =
    next! (s₁ (goal.at.In_ok-y c).In_ok-x) c.put_params.ensures c.in_ok-y.was

abbrev s₃ : In_ok-z → Here
s₃ c =
    next! (s₂ (goal.at.In_ok-z c).In_ok-y) c.put_tail.ensures c.in_ok-z.was

pub bounds-t-2 : goal.bounds-t-2
bounds-t-2 c = omega (arith, c.requires.wide)

pub bounds-t-3 : goal.bounds-t-3
bounds-t-3 c = omega (arith, c.requires.wide)

pub bounds-t-0 : goal.bounds-t-0
bounds-t-0 c = omega (arith, c.requires.wide)

pub bounds-t-1 : goal.bounds-t-1
bounds-t-1 c = omega (arith, c.requires.wide)

pub slice_bounds-put_head-count : goal.slice_bounds-put_head-count
slice_bounds-put_head-count c = let v = c.requires.name in omega (arith, v.ordered, v.within)

pub slice_bounds-put_head-start : goal.slice_bounds-put_head-start
slice_bounds-put_head-start c = let v = c.requires.name in omega (arith, v.ordered, v.within)

pub slice_bounds-put_head-end : goal.slice_bounds-put_head-end
slice_bounds-put_head-end c = let v = c.requires.name in omega (arith, v.ordered, v.within)

pub slice_bounds-put_head-count-2 : goal.slice_bounds-put_head-count-2
slice_bounds-put_head-count-2 c = let v = c.requires.group in omega (arith, v.ordered, v.within)

pub slice_bounds-put_head-start-2 : goal.slice_bounds-put_head-start-2
slice_bounds-put_head-start-2 c = let v = c.requires.group in omega (arith, v.ordered, v.within)

pub slice_bounds-put_head-end-2 : goal.slice_bounds-put_head-end-2
slice_bounds-put_head-end-2 c = let v = c.requires.group in omega (arith, v.ordered, v.within)

pub returns-in_err-x : goal.returns-in_err-x
returns-in_err-x c =
    failed c.from_residual.ensures.0
    (puts-as (kept-bytes c.args.s.now c.args.t.now c.requires.group) (none _ c.put_head.ensures c.in_err-x.was))

pub slice_bounds-put_params-count : goal.slice_bounds-put_params-count
slice_bounds-put_params-count c = in! (s₁ c)

pub slice_bounds-put_params-start : goal.slice_bounds-put_params-start
slice_bounds-put_params-start c = in! (s₁ c)

pub slice_bounds-put_params-end : goal.slice_bounds-put_params-end
slice_bounds-put_params-end c = le_refl _

pub put_params-requires : goal.put_params-requires
put_params-requires c = c.requires

pub returns-in_err-y : goal.returns-in_err-y
returns-in_err-y c =
    failed c.from_residual-in_err-y.ensures.0
    (puts-as (kept-bytes c.args.s.now c.args.t.now c.requires.group) (stop! (s₁ (goal.at.returns-in_err-y c).In_ok-x) c.put_params.ensures c.in_err-y.was))

pub overflow_add-xy : goal.overflow_add-xy
overflow_add-xy c = fit! (s₂ c) c.well_formed.0.0

pub bounds-t-4 : goal.bounds-t-4
bounds-t-4 c = omega (arith, c.requires.wide)

pub bounds-t-5 : goal.bounds-t-5
bounds-t-5 c = omega (arith, c.requires.wide)

pub slice_bounds-put_tail-count : goal.slice_bounds-put_tail-count
slice_bounds-put_tail-count c = in! (s₂ (goal.at.slice_bounds-put_tail-count c).In_ok-y)

pub slice_bounds-put_tail-start : goal.slice_bounds-put_tail-start
slice_bounds-put_tail-start c = in! (s₂ (goal.at.slice_bounds-put_tail-start c).In_ok-y)

pub slice_bounds-put_tail-end : goal.slice_bounds-put_tail-end
slice_bounds-put_tail-end c = le_refl _

pub slice_bounds-put_tail-count-2 : goal.slice_bounds-put_tail-count-2
slice_bounds-put_tail-count-2 c = let v = c.requires.value in omega (arith, v.ordered, v.within)

pub slice_bounds-put_tail-start-2 : goal.slice_bounds-put_tail-start-2
slice_bounds-put_tail-start-2 c = let v = c.requires.value in omega (arith, v.ordered, v.within)

pub slice_bounds-put_tail-end-2 : goal.slice_bounds-put_tail-end-2
slice_bounds-put_tail-end-2 c = let v = c.requires.value in omega (arith, v.ordered, v.within)

pub put_tail-requires : goal.put_tail-requires
put_tail-requires c = c.requires

pub returns-in_err-z : goal.returns-in_err-z
returns-in_err-z c =
    failed c.from_residual-in_err-z.ensures.0
    (puts-as (kept-bytes c.args.s.now c.args.t.now c.requires.group) (stop! (s₂ (goal.at.returns-in_err-z c).In_ok-y) c.put_tail.ensures c.in_err-z.was))

pub overflow_add-xyz : goal.overflow_add-xyz
overflow_add-xyz c =
    let good = c.well_formed in
    fit! (s₃ c) good.0.0

pub shape_of-out : goal.shape_of-out
shape_of-out c = same! (s₃ c)

pub returns : goal.returns
returns c =
    puts-as (kept-bytes c.args.s.now c.args.t.now c.requires.group) (all (s₃ c).left)
