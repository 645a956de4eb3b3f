use mathlib.Core.Path.{◌∙◌}
use Rattle.thymebarrel.proofs.Parts.{part-whole}
use Rattle.thymebarrel.proofs.thymebarrel_member.Goals as goal

pub returns : goal.returns
returns c = part-whole c.locate-p.result c.locate-p.ensures.bounds.ordered ∙ c.locate-p.ensures.value
