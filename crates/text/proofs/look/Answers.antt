use Rattle.text.proofs.Places.{byte-default}
use lib.ListN.{get_or-eq_default}
use mathlib.Core.Path.{sym}
use native.Mathlib.Omega.{arith}
use Rattle.text.proofs.look.Goals as goal

pub overflow_cast-result : goal.overflow_cast-result
overflow_cast-result c = omega (arith, c.type_inv.s c.args.at)

pub returns-then-at-s : goal.returns-then-at-s
returns-then-at-s c = (byte-default c.args.s.now _ 0 256 c.if-at-s.true, omega (arith, c.if-at-s.true))

pub returns-else-at-s : goal.returns-else-at-s
returns-else-at-s c = (sym (get_or-eq_default c.args.s.now 256 c.if-at-s.false), omega arith)
