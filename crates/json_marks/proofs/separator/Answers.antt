use native.Mathlib.Omega.{arith}
use Prim.Native.Nat.{zero, suc}
use Rattle.json_marks.proofs.Laws.{sep-close, sep-comma, sep-none}
use Rattle.json_marks.proofs.separator.Goals as goal

pub returns-then-b-close : goal.returns-then-b-close
returns-then-b-close c = sep-close zero suc c.skip_space-i.ensures c.look-b.ensures.0 c.if-b-close.true (omega arith)

pub returns-then-b-eq-COMMA : goal.returns-then-b-eq-COMMA
returns-then-b-eq-COMMA c = sep-comma zero suc c.skip_space-i.ensures c.look-b.ensures.0 c.if-b-close.false c.if-b-eq-COMMA.true (omega arith)

pub returns : goal.returns
returns c = sep-none zero suc c.skip_space-i.ensures c.look-b.ensures.0 c.if-b-close.false c.if-b-eq-COMMA.false
