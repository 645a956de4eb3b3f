use native.Mathlib.Omega.{arith}
use mathlib.Core.Path.{refl, ◌∙◌}
use lib.Dec.{eqb}
use lib.ListN.{get_or}
use Rattle.text.specs.Bytes.{is}
use Rattle.text.proofs.Cases.{or_left, or_right}
use Rattle.line_class.proofs.Runs.{any-later, any_none}
use Rattle.to_json_maps.proofs.has_dash.Goals as goal

pub loop-b-init : goal.loop-b-init
loop-b-init c = λ e. refl

pub loop-b-preserved : goal.loop-b-preserved
loop-b-preserved c =
    let line = c.args.line.now in
    let at = c.loop-b in
    λ e. at.invariant (or_left at.found (eqb (get_or line at.b-index 0) 45) e) ∙ any-later (is 45) line at.b-index c.loop-b-test.true (or_right at.found (eqb (get_or line at.b-index 0) 45) e)

pub returns : goal.returns
returns c = λ e. c.loop-b.invariant e ∙ any_none (is 45) c.args.line.now c.loop-b.b-index (omega (arith, c.loop-b-test.false))
