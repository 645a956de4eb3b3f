use mathlib.Core.Path.{sym, ap, ◌∙◌}
use Rattle.text.proofs.Handed.{same-error}
use Rattle.json_sound.specs.Sound.{unsoundly}
use Rattle.json_sound.proofs.unsound.Goals as goal

pub returns-in_err-e : goal.returns-in_err-e
returns-in_err-e c = same-error _ c.from_residual.ensures.1 ∙ ap unsoundly (sym c.in_err-e.was)

pub returns : goal.returns
returns c = ap unsoundly (sym c.in_ok-e.was)
