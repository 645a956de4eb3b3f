use Rattle.json_index.proofs.Names.{ends-here, ends-out, ends_on}
use Rattle.json_index.proofs.name_stop.Goals as goal

pub loop-i-init : goal.loop-i-init
loop-i-init c = λ e p. p

pub returns-then-names-i-eq44 : goal.returns-then-names-i-eq44
returns-then-names-i-eq44 c = c.loop-i.invariant _ (ends-here c.args.names.now c.loop-i.i c.loop-i-test.true c.if-names-i-eq44.true)

pub loop-i-preserved : goal.loop-i-preserved
loop-i-preserved c = λ e p. c.loop-i.invariant e (ends_on c.args.names.now c.loop-i.i e c.loop-i-test.true c.if-names-i-eq44.false p)

pub returns : goal.returns
returns c = c.loop-i.invariant _ (ends-out c.args.names.now c.loop-i.i c.loop-i-test.false)
