use Rattle.utf8.proofs.Steps.{next-cut, next_low, next-high, next-due}
use Rattle.utf8.proofs.is_next.Goals as goal

pub returns-then-at-s : goal.returns-then-at-s
returns-then-at-s c = next-cut c.args.s.now c.args.at c.args.low c.args.high c.if-at-s.true

pub returns-then-s-at : goal.returns-then-s-at
returns-then-s-at c = next_low c.args.s.now c.args.at c.args.low c.args.high c.if-at-s.false c.if-s-at.true

pub returns-then-s-at-2 : goal.returns-then-s-at-2
returns-then-s-at-2 c = next-high c.args.s.now c.args.at c.args.low c.args.high c.if-at-s.false c.if-s-at.false c.if-s-at-2.true

pub returns : goal.returns
returns c = next-due c.args.s.now c.args.at c.args.low c.args.high c.if-at-s.false c.if-s-at.false c.if-s-at-2.false
