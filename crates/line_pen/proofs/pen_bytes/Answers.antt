use native.Mathlib.Omega.{arith}
use Rattle.line_pen.proofs.Laws.{pen-early}
use Rattle.line_pen.proofs.pen_bytes.Goals as goal

pub returns-then-column-count : goal.returns-then-column-count
returns-then-column-count c = pen-early (omega (arith, c.if-count-le72.true, c.if-column-count.true)) c.fill-n.ensures
