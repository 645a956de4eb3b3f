use Rattle.line_text.proofs.Reading.{at-end, at_plain, at-backslash}
use Rattle.line_text.proofs.next_char.Goals as goal

pub returns-then-at-s : goal.returns-then-at-s
returns-then-at-s c = at-end c.args.s.now c.args.at c.if-at-s.true

pub returns-then-c-eq92 : goal.returns-then-c-eq92
returns-then-c-eq92 c = at-backslash c.args.s.now c.args.at _ c.if-at-s.false c.if-c-eq92.true c.escaped_char.ensures

pub returns : goal.returns
returns c = at_plain c.args.s.now c.args.at c.if-at-s.false c.if-c-eq92.false
