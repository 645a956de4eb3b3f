use native.Mathlib.Omega.{arith}
use Rattle.to_json_name.proofs.Parts.{passing-start, passing-here, passing-on, passing-out}
use Rattle.to_json_name.proofs.part_from.Goals as goal

pub loop-j-init : goal.loop-j-init
loop-j-init c = (omega arith, passing-start c.args.v.now)

pub returns-then-e-v : goal.returns-then-e-v
returns-then-e-v c = passing-out c.args.v.now c.loop-j.at c.loop-j.j _ c.loop-j.invariant.1 c.part_end-e.ensures c.args.k c.loop-j-test.true (omega (arith, c.if-e-v.true))

pub overflow_add-at : goal.overflow_add-at
overflow_add-at c = omega (arith, c.if-e-v.false, c.well_formed.0.0)

pub loop-j-preserved : goal.loop-j-preserved
loop-j-preserved c = (omega (arith, c.loop-j-test.true), passing-on c.args.v.now c.loop-j.at c.loop-j.j _ c.loop-j.invariant.1 c.part_end-e.ensures (omega (arith, c.if-e-v.false)))

pub returns : goal.returns
returns c = passing-here c.args.v.now c.loop-j.at c.loop-j.j c.args.k c.loop-j.invariant.1 (omega (arith, c.loop-j-test.false, c.loop-j.invariant.0))
