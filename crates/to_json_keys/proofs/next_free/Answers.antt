use native.Mathlib.Nat.{le_refl}
use native.Mathlib.Omega.{arith}
use borrow.Author.Tests.{ne_eqb}
use Rattle.to_json_keys.proofs.Marked.{marked_more}
use Rattle.to_json_keys.proofs.next_free.Goals as goal

pub loop-j-init : goal.loop-j-init
loop-j-init c = (le_refl _, λ k a b. absurd (omega arith))

pub returns-then-row-j-ne1 : goal.returns-then-row-j-ne1
returns-then-row-j-ne1 c = record { on = c.loop-j.invariant.0; marked = c.loop-j.invariant.1; free = λ h. ne_eqb _ _ c.if-row-j-ne1.true }

pub loop-j-preserved : goal.loop-j-preserved
loop-j-preserved c = (omega arith, marked_more c.args.row.now c.args.from c.loop-j.j c.loop-j.invariant.1 (c.if-row-j-ne1.false))

pub returns : goal.returns
returns c = record { on = c.loop-j.invariant.0; marked = c.loop-j.invariant.1; free = λ h. absurd (omega arith) }
