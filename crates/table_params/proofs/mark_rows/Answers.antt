use borrow.Author.Rules.{rules}
use native.Mathlib.Omega.{arith}
use Rattle.table_params.proofs.Notes.{marking-start, marking-on, marking-off, marking-all}
use Rattle.table_params.proofs.mark_rows.Goals as goal

pub loop-k-init : goal.loop-k-init
loop-k-init c = marking-start c.args.n c.args.row.now c.args.s.now c.args.t.now

pub returns-then-not-mark_row : goal.returns-then-not-mark_row
returns-then-not-mark_row c = marking-off c.loop-k.invariant c.loop-k-test.true _ _ c.mark_row.ensures c.if-not-mark_row.true

pub loop-k-preserved : goal.loop-k-preserved
loop-k-preserved c = marking-on c.loop-k.invariant c.loop-k-test.true _ _ c.mark_row.ensures c.if-not-mark_row.false (search rules)

pub returns : goal.returns
returns c = marking-all c.args.s.now c.args.t.now c.loop-k.invariant (omega (arith, c.loop-k-test.false, c.loop-k.auto.k-end))
