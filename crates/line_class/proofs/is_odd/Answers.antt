use mathlib.Core.Path.{ap}
use mathlib.Core.Bool.{◌||◌, not}
use lib.Dec.{ltb}
use Rattle.line_class.specs.Odd.{is_odd}
use Rattle.line_class.proofs.is_odd.Goals as goal

pub returns : goal.returns
unfolding is_odd
returns c = ap (λ b. b || not (ltb c.args.b 128)) c.is_control.ensures
