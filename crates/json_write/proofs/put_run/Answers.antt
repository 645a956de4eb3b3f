use mathlib.Core.Path.{sym, ◌∙◌}
use borrow.Author.Tests.{eq-eqb, ne_eqb}
use native.Mathlib.Omega.{arith}
use Rattle.output.proofs.Laws.{start, done, puts-as}
use Rattle.json_write.proofs.Runs.{run_none, run-bare, run-escape}
use Rattle.json_write.proofs.Spelling.{bare-out}
use Rattle.json_write.proofs.put_run.Goals as goal

pub returns-then-hold-ne0 : goal.returns-then-hold-ne0
returns-then-hold-ne0 c =
    let args = c.args in
    puts-as (sym (run_none args.s.now args.at args.hold (ne_eqb _ _ c.if-hold-ne0.true))) (done (start _))

pub returns-then-at-s : goal.returns-then-at-s
returns-then-at-s c =
    let args = c.args in
    let s = args.s.now in
    puts-as (sym (run-bare s args.at args.hold (eq-eqb _ _ c.if-hold-ne0.false) ∙ bare-out s args.at c.if-at-s.true)) (done (start _))

pub returns-then-s-at-eq92 : goal.returns-then-s-at-eq92
returns-then-s-at-eq92 c =
    let args = c.args in
    puts-as (sym (run-escape args.s.now args.at args.hold (eq-eqb _ _ c.if-hold-ne0.false) (omega (arith, c.if-at-s.false)) c.if-s-at-eq92.true)) (done (start _))

pub returns : goal.returns
returns c =
    let args = c.args in
    puts-as (sym (run-bare args.s.now args.at args.hold (eq-eqb _ _ c.if-hold-ne0.false))) c.put_bare.ensures
