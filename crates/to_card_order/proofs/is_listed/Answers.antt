use native.Mathlib.Omega.{arith}
use Prim.Native.Nat.{◌-◌}
use Rattle.to_card_order.proofs.Apart.{finding-none, finding-row, finds-rows}
use Rattle.to_card_order.proofs.is_listed.Goals as goal

pub loop-i-init : goal.loop-i-init
loop-i-init c = finding-none c.args.s.now c.args.at c.args.kind c.args.value

pub offset_bounds-kinds-i : goal.offset_bounds-kinds-i
offset_bounds-kinds-i c = omega (arith, c.loop-i-test.true, c.requires.rows_bound)

pub bounds-kinds-i : goal.bounds-kinds-i
bounds-kinds-i c =
    omega (arith, c.loop-i-test.true, c.requires.in_bounds, c.requires.rows_bound)

pub offset_bounds-values-i : goal.offset_bounds-values-i
offset_bounds-values-i c = omega (arith, c.loop-i-test.true, c.requires.rows_bound)

pub bounds-values-i : goal.bounds-values-i
bounds-values-i c =
    omega (arith, c.loop-i-test.true, c.requires.in_bounds_2, c.requires.rows_bound)

pub loop-i-preserved : goal.loop-i-preserved
loop-i-preserved c =
    let args = c.args in
    let loop = c.loop-i in
    finding-row args.s.now args.at args.kind args.value args.kinds.now args.values.now args.rows c.requires.rows_bound c.requires.rows_from loop.i
    loop.found loop.invariant
    c.loop-i-test.true c.agrees-found.result c.agrees-found.ensures

pub returns : goal.returns
returns c =
    let args = c.args in
    finds-rows args.s.now args.at args.kind args.value args.kinds.now args.values.now args.rows c.requires.rows_bound c.requires.rows_from
    c.loop-i.i c.loop-i.found c.loop-i.invariant
    c.loop-i-test.false
