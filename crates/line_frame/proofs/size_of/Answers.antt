use mathlib.Core.Path.{sym}
use Rattle.line_frame.proofs.Physical.{size-empty, size-lf, size-without}
use Rattle.line_frame.proofs.size_of.Goals as goal

pub returns-then-n-eq0 : goal.returns-then-n-eq0
returns-then-n-eq0 c = sym (size-empty c.args.s.now c.if-n-eq0.true)

pub returns-then-s-last-eq10 : goal.returns-then-s-last-eq10
returns-then-s-last-eq10 c = sym (size-lf c.args.s.now c.if-n-eq0.false c.if-s-last-eq10.true)

pub returns : goal.returns
returns c = sym (size-without c.args.s.now c.if-n-eq0.false c.if-s-last-eq10.false)
