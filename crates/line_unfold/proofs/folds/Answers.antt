use mathlib.Core.Path.{sym, ◌∙◌}
use native.Mathlib.Omega.{arith}
use Rattle.line_unfold.proofs.Unfolding.{blank_none, blank-first}
use Rattle.line_unfold.proofs.folds.Goals as goal

pub returns-then-line-eq0 : goal.returns-then-line-eq0
returns-then-line-eq0 c = sym (blank_none c.args.line.now c.if-line-eq0.true)

pub returns : goal.returns
returns c = c.in_class.ensures ∙ sym (blank-first c.args.line.now (omega (arith, c.if-line-eq0.false)))
