use Rattle.text.proofs.Handed.{handed}
use Rattle.text.proofs.Places.{then_next, then-bad, then-end}
use Rattle.json_text.specs.Syntax.{number}
use Rattle.json_numbers.proofs.number_end.Goals as goal

pub returns-in_err-k : goal.returns-in_err-k
unfolding number
returns-in_err-k c = handed c.from_residual.ensures.1 (then-bad _ c.in_err-k.ensures)

pub returns-in_err-j : goal.returns-in_err-j
unfolding number
returns-in_err-j c = handed c.from_residual-in_err-j.ensures.1 (then_next _ c.in_ok-k.ensures λ x. then-bad _ c.in_err-j.ensures)

pub returns-in_err-i : goal.returns-in_err-i
unfolding number
returns-in_err-i c =
    handed c.from_residual-in_err-i.ensures.1
    (then_next _ c.in_ok-k.ensures λ x. then_next _ c.in_ok-j.ensures λ y. then-bad _ c.in_err-i.ensures)

pub returns : goal.returns
unfolding number
returns c =
    then_next _ c.in_ok-k.ensures λ x. then_next _ c.in_ok-j.ensures λ y. then_next _ c.in_ok-i.ensures λ z. then-end _ c.exp_end.ensures
