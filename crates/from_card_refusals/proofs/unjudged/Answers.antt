use mathlib.Core.Path.{sym}
use Rattle.from_card_refusals.proofs.Judging.{judged-none}
use Rattle.from_card_refusals.proofs.unjudged.Goals as goal

pub returns : goal.returns
returns c = sym judged-none
