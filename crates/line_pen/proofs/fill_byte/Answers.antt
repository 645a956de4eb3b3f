use Rattle.line_pen.proofs.Laws.{byte-none, byte_one}
use Rattle.line_pen.proofs.fill_byte.Goals as goal

pub returns-then-out-eq0 : goal.returns-then-out-eq0
returns-then-out-eq0 c = byte-none _ _ c.if-out-eq0.true

pub returns : goal.returns
returns c = byte_one _ _ c.if-out-eq0.false
