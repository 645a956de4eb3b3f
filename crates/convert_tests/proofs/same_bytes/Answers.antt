use mathlib.Core.Path.{◌∙◌}
use Rattle.convert_tests.proofs.Same.{equal-same}
use Rattle.convert_tests.proofs.same_bytes.Goals as goal

pub returns : goal.returns
returns c = c.eq.ensures ∙ equal-same c.args.a.now c.args.b.now
