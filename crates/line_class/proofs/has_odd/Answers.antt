use native.Mathlib.Omega.{arith}
use mathlib.Core.Path.{refl, sym, ◌∙◌}
use Rattle.line_class.specs.Odd.{is_odd}
use Rattle.line_class.proofs.Odd.{any-more, any-end}
use Rattle.line_class.proofs.has_odd.Goals as goal

pub loop-b-init : goal.loop-b-init
loop-b-init c = refl

pub loop-b-preserved : goal.loop-b-preserved
loop-b-preserved c = c.loop-b.invariant ∙ any-more is_odd c.args.line.now c.loop-b.b-index c.loop-b.found c.is_odd-found.result c.loop-b-test.true c.is_odd-found.ensures

pub returns : goal.returns
returns c = sym (c.loop-b.invariant ∙ any-end is_odd c.args.line.now c.loop-b.b-index c.loop-b.found (omega (arith, c.loop-b-test.false)))
