use mathlib.Core.Path.{refl, ◌∙◌}
use native.Mathlib.Omega.{arith}
use Rattle.text_words.specs.Words.{no_lf}
use Rattle.line_frame.specs.Lines.{not_lf}
use Rattle.line_frame.proofs.lf_at.Goals as goal

pub loop-i-init : goal.loop-i-init
loop-i-init c = refl

pub overflow_add-i : goal.overflow_add-i
overflow_add-i c = omega (arith, (c.skips.ensures c.loop-i-test.true).0)

pub loop-i-smaller : goal.loop-i-smaller
loop-i-smaller c = omega (arith, (c.skips.ensures c.loop-i-test.true).0)

pub loop-i-preserved : goal.loop-i-preserved
loop-i-preserved c = (c.skips.ensures c.loop-i-test.true).1 ∙ c.loop-i.invariant

pub returns : goal.returns
unfolding not_lf no_lf
returns c = c.line_end.ensures ∙ c.loop-i.invariant
