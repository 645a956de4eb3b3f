use native.Mathlib.Omega.{arith}
use mathlib.Core.Path.{refl, ◌∙◌}
use borrow.Author.Rules.{rules}
use Rattle.utf8.proofs.Steps.{first_step, ascii}
use Rattle.utf8.proofs.ascii_from.Goals as goal

pub loop-i-init : goal.loop-i-init
loop-i-init c = (search rules, c.requires, refl)

pub returns-then-s-i-ge128 : goal.returns-then-s-i-ge128
returns-then-s-i-ge128 c = c.loop-i.invariant

pub loop-i-preserved : goal.loop-i-preserved
loop-i-preserved c = (omega arith, omega arith, c.loop-i.invariant.2 ∙ first_step c.args.s.now c.loop-i.i c.loop-i-test.true (ascii _ c.if-s-i-ge128.false))

pub returns : goal.returns
returns c = c.loop-i.invariant
