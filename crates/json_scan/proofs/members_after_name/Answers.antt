use Rattle.text.proofs.Handed.{handed}
use Rattle.text.proofs.Places.{by-under, then-bad, then_next}
use Rattle.json_text.specs.Tree.{mcons}
use Rattle.json_scan.proofs.members_after_name.Goals as goal

pub returns-in_err-e : goal.returns-in_err-e
returns-in_err-e c = λ us. handed c.from_residual.ensures.1 (then-bad _ c.in_err-e.ensures)

pub returns : goal.returns
returns c = λ us. then_next _ c.in_ok-e.ensures (λ j. by-under (mcons us j) c.members_after.ensures)
