use Rattle.text.proofs.Handed.{handed}
use Rattle.text.proofs.Places.{then_next, then-bad, then-end}
use Rattle.json_text.specs.Syntax.{name}
use Rattle.json_scan.proofs.name_end.Goals as goal

pub returns-in_err-j : goal.returns-in_err-j
unfolding name
returns-in_err-j c = handed c.from_residual.ensures.1 (then-bad _ c.in_err-j.ensures)

pub returns-in_err-i : goal.returns-in_err-i
unfolding name
returns-in_err-i c = handed c.from_residual-in_err-i.ensures.1 (then_next _ c.in_ok-j.ensures λ q. then-bad _ c.in_err-i.ensures)

pub returns : goal.returns
unfolding name
returns c = then_next _ c.in_ok-j.ensures λ q. then_next _ c.in_ok-i.ensures λ k. then-end _ c.mark-2.ensures
