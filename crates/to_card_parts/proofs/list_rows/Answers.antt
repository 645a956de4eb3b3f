use native.Mathlib.Omega.{arith}
use mathlib.Core.Path.{refl, ◌∙◌}
use Prim.Native.Nat.{◌≤◌, ◌<◌, ◌-◌}
use lib.ListN.{length}
use Rattle.text.proofs.Places.{turn-as}
use Rattle.to_card_parts.proofs.Passes.{kind-in, ended-found, ended-in, checking-first, checks-wrong, checking-on, checks-all}
use Rattle.to_card_parts.proofs.Rows.{listing-first, listing-on, lists-all, no_rows}
use Rattle.to_card_parts.proofs.list_rows.Goals as goal

pub loop-part-init : goal.loop-part-init
loop-part-init c =
    let args = c.args in
    let s = args.s.now in (
      c.requires.at_in_bounds,
      refl,
      refl,
      refl,
      checking-first s args.at args.marks.now c.requires.clear,
      listing-first s args.at args.kinds.now args.values.now,
    )

pub component_to_end-requires : goal.component_to_end-requires
component_to_end-requires c = c.loop-part.invariant.0

pub shape_of-marks-in_default : goal.shape_of-marks-in_default
shape_of-marks-in_default c = c.loop-part.invariant.1

pub shape_of-kinds-in_default : goal.shape_of-kinds-in_default
shape_of-kinds-in_default c = c.loop-part.invariant.2

pub shape_of-values-in_default : goal.shape_of-values-in_default
shape_of-values-in_default c = c.loop-part.invariant.3

pub returns-in_default : goal.returns-in_default
returns-in_default c =
    let args = c.args in
    let loop = c.loop-part in
    let s = args.s.now in
    let wrong = checks-wrong s args.at loop.i loop.marks loop.invariant.4 _ c.component_to_end.ensures.tells_component (ended-found c.in_default.is) loop.marks in
    record { checks_from = wrong; rows_from = no_rows s args.at loop.marks loop.kinds loop.values 0 wrong }

pub mark_kind-requires : goal.mark_kind-requires
mark_kind-requires c =
    let loop = c.loop-part in
    omega (arith, kind-in _ c.component_to_end.ensures.kind_in (ended-found c.in-Ok.is), loop.invariant.1, c.requires.part_count_in_bounds)

pub put_row-n-requires : goal.put_row-n-requires
put_row-n-requires c =
    let loop = c.loop-part in
    record { in_bounds = omega (arith, loop.invariant.2, c.requires.in_bounds); in_bounds_2 = omega (arith, loop.invariant.3, c.requires.in_bounds_2) }

pub separator-requires : goal.separator-requires
separator-requires c =
    let args = c.args in
    let loop = c.loop-part in
    record { at_in_bounds = (ended-in args.s.now loop.i c.component_to_end.ensures.end_in c.in-Ok.is).within; close_bound = omega arith }

pub loop-part-smaller : goal.loop-part-smaller
loop-part-smaller c =
    let separator = c.separator in
    let args = c.args in
    let loop = c.loop-part in
    let h = turn-as separator.ensures c.in-Continue.is in
    omega (arith, h.within.0, h.within.1, (ended-in args.s.now loop.i c.component_to_end.ensures.end_in c.in-Ok.is).from)

pub loop-part-preserved : goal.loop-part-preserved
loop-part-preserved c =
    let args = c.args in
    let separator = c.separator in
    let mark-kind = c.mark_kind in
    let s = args.s.now in
    let at = args.at in
    let l = c.loop-part in
    let tells = c.component_to_end.ensures.tells_component in
    let is = ended-found c.in-Ok.is in
    let ends = (ended-in s l.i c.component_to_end.ensures.end_in c.in-Ok.is).ends in
    let row = c.put_row-n in
    let h = turn-as separator.ensures c.in-Continue.is in
    let low : c.in-Ok.part.found.kind < length l.marks = omega (arith, kind-in _ c.component_to_end.ensures.kind_in (ended-found c.in-Ok.is), l.invariant.1, c.requires.part_count_in_bounds) in
    let lk : 16 ≤ length l.kinds = omega (arith, l.invariant.2, c.requires.in_bounds) in
    let lv : 16 ≤ length l.values = omega (arith, l.invariant.3, c.requires.in_bounds_2) in (
      h.within.1,
      mark-kind.ensures.long ∙ l.invariant.1,
      row.ensures.long-kinds ∙ l.invariant.2,
      row.ensures.long-values ∙ l.invariant.3,
      checking-on s at l.i l.marks l.invariant.4 _ tells _ _ is _ low mark-kind.ensures _ ends _ h,
      listing-on s at l.i l.kinds l.values l.n l.invariant.5 _ tells _ ends _ _ is lk lv _ _ row.result row.ensures _ h,
    )

pub shape_of-marks-in-Break : goal.shape_of-marks-in-Break
shape_of-marks-in-Break c =
    let loop = c.loop-part in
    let mark-kind = c.mark_kind in
    mark-kind.ensures.long ∙ loop.invariant.1

pub shape_of-kinds-in-Break : goal.shape_of-kinds-in-Break
shape_of-kinds-in-Break c =
    let put-row = c.put_row-n in
    let loop = c.loop-part in
    put-row.ensures.long-kinds ∙ loop.invariant.2

pub shape_of-values-in-Break : goal.shape_of-values-in-Break
shape_of-values-in-Break c =
    let put-row = c.put_row-n in
    let loop = c.loop-part in
    put-row.ensures.long-values ∙ loop.invariant.3

pub returns-in-Break : goal.returns-in-Break
returns-in-Break c =
    let args = c.args in
    let separator = c.separator in
    let mark-kind = c.mark_kind in
    let s = args.s.now in
    let at = args.at in
    let l = c.loop-part in
    let tells = c.component_to_end.ensures.tells_component in
    let is = ended-found c.in-Ok.is in
    let ends = (ended-in s l.i c.component_to_end.ensures.end_in c.in-Ok.is).ends in
    let row = c.put_row-n in
    let h = turn-as separator.ensures c.in-Break.is in
    let low : c.in-Ok.part.found.kind < length l.marks = omega (arith, kind-in _ c.component_to_end.ensures.kind_in (ended-found c.in-Ok.is), l.invariant.1, c.requires.part_count_in_bounds) in
    let lk : 16 ≤ length l.kinds = omega (arith, l.invariant.2, c.requires.in_bounds) in
    let lv : 16 ≤ length l.values = omega (arith, l.invariant.3, c.requires.in_bounds_2) in record {
      checks_from = checks-all s at l.i l.marks l.invariant.4 _ tells _ _ is _ low mark-kind.ensures _ ends _ h row.result row.ensures.some-row;
      rows_from = lists-all s at l.i l.kinds l.values l.n l.invariant.5 _ tells _ ends _ _ is lk lv _ _ row.result row.ensures _ h;
    }
