use native.Mathlib.Omega.{arith}
use Rattle.output.proofs.Laws.{start, byte, no_byte, done}
use Rattle.output.proofs.put_byte.Goals as goal

pub returns-then-out-eq0 : goal.returns-then-out-eq0
returns-then-out-eq0 c = no_byte _ (start _) (omega arith)

pub returns : goal.returns
returns c = done (byte _ (start _) (omega arith))
