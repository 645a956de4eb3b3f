use mathlib.Core.Path.{sym, ap, ◌∙◌}
use Rattle.text.proofs.Handed.{same-error}
use Rattle.json_sound.specs.Sound.{soundly}
use Rattle.json_sound.proofs.sound.Goals as goal

pub returns-in_err-e : goal.returns-in_err-e
returns-in_err-e c = same-error _ c.from_residual.ensures.1 ∙ ap soundly (sym c.in_err-e.was)

pub returns : goal.returns
returns c = ap soundly (sym c.in_ok-e.was)
