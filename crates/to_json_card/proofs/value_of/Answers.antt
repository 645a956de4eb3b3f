use native.Mathlib.Omega.{arith}
use Rattle.to_json_maps.proofs.Marking.{filled-holds, filled_none}
use Rattle.to_json_card.proofs.Name.{value-unread, value_read}
use Rattle.to_json_card.proofs.value_of.Goals as goal

pub fill-requires : goal.fill-requires
fill-requires c = c.requires

pub returns-then-not-fill : goal.returns-then-not-fill
returns-then-not-fill c = value-unread _ _ (filled_none _ _ c.fill.result c.fill.ensures c.if-not-fill.true)

pub bounds-t-4 : goal.bounds-t-4
bounds-t-4 c = omega (arith, (filled-holds c.fill.result c.fill.ensures c.if-not-fill.false).sound.wide)

pub bounds-t-5 : goal.bounds-t-5
bounds-t-5 c = omega (arith, (filled-holds c.fill.result c.fill.ensures c.if-not-fill.false).sound.wide)

pub slice_bounds-result-count-2 : goal.slice_bounds-result-count-2
slice_bounds-result-count-2 c = let v = (filled-holds c.fill.result c.fill.ensures c.if-not-fill.false).sound.value in omega (arith, v.ordered, v.within)

pub slice_bounds-result-start-2 : goal.slice_bounds-result-start-2
slice_bounds-result-start-2 c = let v = (filled-holds c.fill.result c.fill.ensures c.if-not-fill.false).sound.value in omega (arith, v.ordered, v.within)

pub slice_bounds-result-end-2 : goal.slice_bounds-result-end-2
slice_bounds-result-end-2 c = let v = (filled-holds c.fill.result c.fill.ensures c.if-not-fill.false).sound.value in omega (arith, v.ordered, v.within)

pub returns : goal.returns
returns c = value_read (filled-holds c.fill.result c.fill.ensures c.if-not-fill.false)
