use Rattle.convert_types.proofs.Places.{part-here, part_out, part-on}
use Rattle.convert_types.proofs.part_end.Goals as goal

pub loop-i-init : goal.loop-i-init
loop-i-init c = λ e p. p

pub returns-then-s-i-eq44 : goal.returns-then-s-i-eq44
returns-then-s-i-eq44 c = c.loop-i.invariant _ (part-here c.args.s.now c.loop-i.i c.loop-i-test.true c.if-s-i-eq44.true)

pub loop-i-preserved : goal.loop-i-preserved
loop-i-preserved c = λ e p. c.loop-i.invariant e (part-on c.args.s.now c.loop-i.i e c.loop-i-test.true c.if-s-i-eq44.false p)

pub returns : goal.returns
returns c = c.loop-i.invariant _ (part_out c.args.s.now c.loop-i.i c.loop-i-test.false)
