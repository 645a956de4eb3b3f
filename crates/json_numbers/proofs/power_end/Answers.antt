use Rattle.text.proofs.Handed.{handed}
use Rattle.text.proofs.Places.{then_next, then-bad, then-end}
use Rattle.json_numbers.specs.Power.{power}
use Rattle.json_numbers.proofs.power_end.Goals as goal

pub returns-in_err-i : goal.returns-in_err-i
unfolding power
returns-in_err-i c = handed c.from_residual.ensures.1 (then-bad _ c.in_err-i.ensures)

pub returns : goal.returns
unfolding power
returns c = then_next _ c.in_ok-i.ensures λ g. then-end _ c.digits_end.ensures
