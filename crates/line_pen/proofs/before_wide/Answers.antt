use native.Mathlib.Omega.{arith}
use Rattle.line_pen.proofs.before_wide.Goals as goal

pub returns-then-column-ge72 : goal.returns-then-column-ge72
returns-then-column-ge72 c = omega (arith, c.if-column-ge72.true)

pub overflow_sub-room : goal.overflow_sub-room
overflow_sub-room c = omega (arith, c.if-column-ge72.false)

pub returns-then-count-room : goal.returns-then-count-room
returns-then-count-room c = omega (arith, c.if-count-room.true)

pub returns : goal.returns
returns c = omega (arith, c.if-count-room.false)
