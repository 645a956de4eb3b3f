use Rattle.output.proofs.Laws.{failed}
use borrow.Author.Rules.{rules}
use native.Mathlib.Omega.{arith}
use Rattle.to_json_maps.proofs.Heads.{prefix-fits, unmarked}
use Rattle.to_json_maps.proofs.Turns.{put_front, fits-front, never-full}
use Rattle.to_json_maps.proofs.put_map.Goals as goal

pub returns-in_err-p : goal.returns-in_err-p
returns-in_err-p c =
    let pre = c.requires in
    let args = c.args in
    let put-prefix = c.put_prefix in
    λ cs h. failed c.from_residual.ensures.0
    (never-full _ _ _ _ put-prefix.ensures c.in_err-p.was (prefix-fits args.i pre.2))

pub may_have_ids-requires : goal.may_have_ids-requires
may_have_ids-requires c =
    let pre = c.requires in
    (pre.1, omega (arith, pre.2))

pub slice_bounds-put_entries-count : goal.slice_bounds-put_entries-count
slice_bounds-put_entries-count c = omega (arith, fits-front _ _ _ _ _ c.put_prefix.ensures c.in_ok-p.was)

pub slice_bounds-put_entries-start : goal.slice_bounds-put_entries-start
slice_bounds-put_entries-start c = omega (arith, fits-front _ _ _ _ _ c.put_prefix.ensures c.in_ok-p.was)

pub slice_bounds-put_entries-end : goal.slice_bounds-put_entries-end
slice_bounds-put_entries-end c = omega (arith, fits-front _ _ _ _ _ c.put_prefix.ensures c.in_ok-p.was)

pub put_entries-requires : goal.put_entries-requires
put_entries-requires c =
    let pre = c.requires in
    let none = c.may_have_ids.ensures c.if-not-may_have_ids.true in
    (search rules, record { lines = pre.1; small = pre.2; is = put_front _ _ _ _ _ c.put_prefix.ensures c.in_ok-p.was; ids = none })

pub returns-then-not-may_have_ids : goal.returns-then-not-may_have_ids
returns-then-not-may_have_ids c = c.put_entries.ensures

pub slice_bounds-mark_ids-count : goal.slice_bounds-mark_ids-count
slice_bounds-mark_ids-count c = omega (arith, fits-front _ _ _ _ _ c.put_prefix.ensures c.in_ok-p.was)

pub slice_bounds-mark_ids-start : goal.slice_bounds-mark_ids-start
slice_bounds-mark_ids-start c = omega (arith, fits-front _ _ _ _ _ c.put_prefix.ensures c.in_ok-p.was)

pub slice_bounds-mark_ids-end-2 : goal.slice_bounds-mark_ids-end-2
slice_bounds-mark_ids-end-2 c = omega (arith, fits-front _ _ _ _ _ c.put_prefix.ensures c.in_ok-p.was)

pub mark_ids-taken-requires : goal.mark_ids-taken-requires
mark_ids-taken-requires c =
    let pre = c.requires in
    (unmarked, pre.0, pre.1, omega (arith, pre.2))

pub slice_bounds-put_entries-count-2 : goal.slice_bounds-put_entries-count-2
slice_bounds-put_entries-count-2 c = omega (arith, fits-front _ _ _ _ _ c.put_prefix.ensures c.in_ok-p.was)

pub slice_bounds-put_entries-start-2 : goal.slice_bounds-put_entries-start-2
slice_bounds-put_entries-start-2 c =
    let put-prefix = c.put_prefix in
    omega (arith, fits-front _ _ _ _ _ put-prefix.ensures c.in_ok-p.was)

pub slice_bounds-put_entries-end-2 : goal.slice_bounds-put_entries-end-2
slice_bounds-put_entries-end-2 c =
    let put-prefix = c.put_prefix in
    omega (arith, fits-front _ _ _ _ _ put-prefix.ensures c.in_ok-p.was)

pub put_entries-requires-2 : goal.put_entries-requires-2
put_entries-requires-2 c =
    let pre = c.requires in
    let put-prefix = c.put_prefix in
    let mark-ids = c.mark_ids-taken in
    (search rules, record { lines = pre.1; small = pre.2; is = (put_front _ _ _ _ _ put-prefix.ensures c.in_ok-p.was); ids = mark-ids.ensures })

pub returns : goal.returns
returns c = c.put_entries-2.ensures
