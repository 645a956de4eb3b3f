use mathlib.Core.Path.{refl, sym, ◌∙◌}
use Rattle.line_class.proofs.Runs.{run_on, run-stops, run_out}
use Rattle.line_class.proofs.run_end.Goals as goal

pub loop-i-init : goal.loop-i-init
loop-i-init c = refl

pub returns-then-not-in_run : goal.returns-then-not-in_run
returns-then-not-in_run c =
    sym (run-stops _ c.args.s.now c.loop-i.i c.loop-i-test.true (sym c.in_run.ensures ∙ c.if-not-in_run.true)) ∙ c.loop-i.invariant

pub loop-i-preserved : goal.loop-i-preserved
loop-i-preserved c = sym (run_on _ c.args.s.now c.loop-i.i c.loop-i-test.true (sym c.in_run.ensures ∙ c.if-not-in_run.false)) ∙ c.loop-i.invariant

pub returns : goal.returns
returns c = sym (run_out _ c.args.s.now c.loop-i.i c.loop-i-test.false) ∙ c.loop-i.invariant
