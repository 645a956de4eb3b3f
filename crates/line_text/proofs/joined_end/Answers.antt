use Rattle.line_text.proofs.Splitting.{joined-none, joined-one}
use Rattle.line_text.proofs.joined_end.Goals as goal

pub loop-i-init : goal.loop-i-init
loop-i-init c = joined-none _ c.args.s.now c.args.at

pub returns-then-c-d : goal.returns-then-c-d
returns-then-c-d c = c.loop-i.invariant

pub loop-i-preserved : goal.loop-i-preserved
loop-i-preserved c = joined-one _ c.args.s.now _ c.loop-i.i c.loop-i.invariant c.loop-i-test.true c.if-c-d.false

pub returns : goal.returns
returns c = c.loop-i.invariant
