use native.Mathlib.Omega.{arith}
use Prim.Native.Nat.{◌-◌}
use Rattle.to_card_order.proofs.Apart.{parting-none, parting-row, parts-rows}
use Rattle.to_card_order.proofs.are_apart.Goals as goal

pub walk_apart-requires : goal.walk_apart-requires
walk_apart-requires c = c.requires.at_in_bounds

pub returns-then-rows-gt-ROWS : goal.returns-then-rows-gt-ROWS
returns-then-rows-gt-ROWS c = c.walk_apart.ensures

pub loop-i-init : goal.loop-i-init
loop-i-init c =
    let args = c.args in
    parting-none args.s.now args.at args.one args.other

pub offset_bounds-kinds-i : goal.offset_bounds-kinds-i
offset_bounds-kinds-i c =
    omega (arith, c.loop-i-test.true, c.if-rows-gt-ROWS.false, c.requires.in_bounds, c.requires.in_bounds_2)

pub bounds-kinds-i : goal.bounds-kinds-i
bounds-kinds-i c =
    omega (arith, c.loop-i-test.true, c.if-rows-gt-ROWS.false, c.requires.in_bounds, c.requires.in_bounds_2)

pub offset_bounds-values-i : goal.offset_bounds-values-i
offset_bounds-values-i c =
    omega (arith, c.loop-i-test.true, c.if-rows-gt-ROWS.false, c.requires.in_bounds, c.requires.in_bounds_2)

pub bounds-values-i : goal.bounds-values-i
bounds-values-i c =
    omega (arith, c.loop-i-test.true, c.if-rows-gt-ROWS.false, c.requires.in_bounds, c.requires.in_bounds_2)

pub clashes-requires : goal.clashes-requires
clashes-requires c =
    record {
      at_in_bounds = c.requires.at_in_bounds;
      in_bounds = c.requires.in_bounds;
      in_bounds_2 = c.requires.in_bounds_2;
      rows_bound = omega (arith, c.if-rows-gt-ROWS.false);
      rows_from = c.requires.rows_from;
    }

pub loop-i-preserved : goal.loop-i-preserved
loop-i-preserved c =
    let args' = c.args in
    let args = args' in
    let loop = c.loop-i in
    parting-row args.s.now args.at args.one args.other args.kinds.now args.values.now args.rows
    (omega (arith, c.if-rows-gt-ROWS.false)) c.requires.rows_from loop.i loop.ok loop.invariant
    c.loop-i-test.true c.clashes.result c.clashes.ensures

pub returns : goal.returns
returns c =
    let args = c.args in
    let loop = c.loop-i in
    parts-rows args.s.now args.at args.one args.other args.kinds.now args.values.now args.rows (omega (arith, c.if-rows-gt-ROWS.false))
    c.requires.rows_from loop.i loop.ok loop.invariant
    c.loop-i-test.false
