use Rattle.line_pen.proofs.Laws.{onward-less, onward-last}
use Rattle.line_pen.proofs.next_column.Goals as goal

pub returns-then-column-lt75 : goal.returns-then-column-lt75
returns-then-column-lt75 c = onward-less _ c.if-column-lt75.true

pub returns : goal.returns
returns c = onward-last _ c.if-column-lt75.false
