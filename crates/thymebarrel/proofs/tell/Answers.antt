use mathlib.Core.Path.{sym, ap, ◌∙◌}
use Rattle.thymebarrel.specs.Given.{told_by}
use Rattle.thymebarrel.proofs.tell.Goals as goal

pub returns-in-Answer : goal.returns-in-Answer
returns-in-Answer c = c.tell_outcome.ensures ∙ sym (ap told_by c.in-Answer.is)
