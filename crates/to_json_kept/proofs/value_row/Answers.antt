use native.Mathlib.Omega.{arith}
use Rattle.to_json_kept.proofs.Whole.{untyped-start, untyped-on, untyped-all, typed-here}
use Rattle.to_json_kept.proofs.value_row.Goals as goal

pub bounds-t-6 : goal.bounds-t-6
bounds-t-6 c = omega (arith, c.requires.wide)

pub loop-k-init : goal.loop-k-init
loop-k-init c = (omega arith, untyped-start c.args.s.now c.args.t.now)

pub is_value-requires : goal.is_value-requires
is_value-requires c = (c.requires, c.loop-k-test.true)

pub returns-then-is_value : goal.returns-then-is_value
returns-then-is_value c = typed-here c.args.s.now c.args.t.now c.loop-k.k _ c.is_value.ensures c.if-is_value.true c.loop-k.invariant.1 c.loop-k-test.true

pub overflow_add-k : goal.overflow_add-k
overflow_add-k c = omega (arith, c.requires.few, c.loop-k-test.true)

pub loop-k-smaller : goal.loop-k-smaller
loop-k-smaller c = omega (arith, c.loop-k-test.true)

pub loop-k-preserved : goal.loop-k-preserved
loop-k-preserved c = (omega (arith, c.loop-k-test.true), untyped-on c.args.s.now c.args.t.now c.loop-k.k _ c.is_value.ensures c.if-is_value.false c.loop-k.invariant.1)

pub returns : goal.returns
returns c = untyped-all c.args.s.now c.args.t.now c.loop-k.k c.loop-k.invariant.1 (omega (arith, c.loop-k-test.false, c.loop-k.invariant.0))
