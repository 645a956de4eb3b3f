use native.Mathlib.Omega.{arith}
use Prim.Native.Nat.{◌-◌}
use Rattle.text.proofs.Places.{turn-as}
use Rattle.to_card_parts.proofs.Passes.{ended-found, ended-in}
use Rattle.to_card_order.proofs.Noted.{apart-unnoted, parting-first, parts-wrong, parting-on, parts_all}
use Rattle.to_card_order.proofs.none_met.Goals as goal

pub returns-then-count-eq0 : goal.returns-then-count-eq0
returns-then-count-eq0 c =
    let args = c.args in
    apart-unnoted args.s.now args.at args.kind args.places.now args.prints.now args.count c.if-count-eq0.true

pub loop-part-init : goal.loop-part-init
loop-part-init c =
    let args = c.args in
    (c.requires.at_in_bounds, parting-first args.s.now args.at args.kind args.places.now args.prints.now args.count)

pub component_to_end-requires : goal.component_to_end-requires
component_to_end-requires c = c.loop-part.invariant.0

pub returns-in_default : goal.returns-in_default
returns-in_default c =
    let args = c.args in
    let loop = c.loop-part in
    parts-wrong args.s.now args.at args.kind args.places.now args.prints.now args.count loop.i loop.ok loop.invariant.1 _ c.component_to_end.ensures.tells_component (ended-found c.in_default.is)

pub is_met-requires : goal.is_met-requires
is_met-requires c = record { count_in_bounds = c.requires.count_in_bounds; count_in_bounds_2 = c.requires.count_in_bounds_2 }

pub separator-requires : goal.separator-requires
separator-requires c =
    let args = c.args in
    let loop = c.loop-part in
    record { at_in_bounds = (ended-in args.s.now loop.i c.component_to_end.ensures.end_in c.in-Ok.is).within; close_bound = omega arith }

pub loop-part-smaller : goal.loop-part-smaller
loop-part-smaller c =
    let separator = c.separator in
    let args = c.args in
    let loop = c.loop-part in
    let h = turn-as separator.ensures c.in-Continue.is in
    omega (arith, h.within.0, h.within.1, (ended-in args.s.now loop.i c.component_to_end.ensures.end_in c.in-Ok.is).from)

pub loop-part-preserved : goal.loop-part-preserved
loop-part-preserved c =
    let separator = c.separator in
    let args = c.args in
    let loop = c.loop-part in
    let is-met = c.is_met in
    let h = turn-as separator.ensures c.in-Continue.is in (
      h.within.1,
      parting-on args.s.now args.at args.kind args.places.now args.prints.now args.count loop.i loop.ok loop.invariant.1 _ c.component_to_end.ensures.tells_component _
          _ (ended-found c.in-Ok.is) is-met.result is-met.ensures _ (ended-in args.s.now loop.i c.component_to_end.ensures.end_in c.in-Ok.is).ends _ h,
    )

pub returns-in-Break : goal.returns-in-Break
returns-in-Break c =
    let args = c.args in
    let loop = c.loop-part in
    let is-met = c.is_met in
    let separator = c.separator in
    parts_all args.s.now args.at args.kind args.places.now args.prints.now args.count loop.i loop.ok loop.invariant.1 _ c.component_to_end.ensures.tells_component _ _
    (ended-found c.in-Ok.is) is-met.result is-met.ensures _ (ended-in args.s.now loop.i c.component_to_end.ensures.end_in c.in-Ok.is).ends _ (turn-as separator.ensures c.in-Break.is)
