use Rattle.text.proofs.Handed.{handed}
use Rattle.text.proofs.Places.{then_next, then-bad, then-end}
use Rattle.json_text.specs.Syntax.{four}
use Rattle.json_scan.proofs.four_end.Goals as goal

pub returns-in_err-k : goal.returns-in_err-k
unfolding four
returns-in_err-k c = handed c.from_residual.ensures.1 (then-bad _ c.in_err-k.ensures)

pub returns-in_err-j : goal.returns-in_err-j
unfolding four
returns-in_err-j c = handed c.from_residual-in_err-j.ensures.1 (then_next _ c.in_ok-k.ensures λ p. then-bad _ c.in_err-j.ensures)

pub returns-in_err-i : goal.returns-in_err-i
unfolding four
returns-in_err-i c =
    handed c.from_residual-in_err-i.ensures.1 (then_next _ c.in_ok-k.ensures λ p. then_next _ c.in_ok-j.ensures λ q. then-bad _ c.in_err-i.ensures)

pub returns : goal.returns
unfolding four
returns c =
    then_next _ c.in_ok-k.ensures λ p. then_next _ c.in_ok-j.ensures λ q. then_next _ c.in_ok-i.ensures λ r. then-end _ c.byte-4.ensures
