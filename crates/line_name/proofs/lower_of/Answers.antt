use mathlib.Core.Path.{◌∙◌}
use Rattle.line_name.proofs.Names.{lower-is}
use Rattle.line_name.proofs.lower_of.Goals as goal

pub returns : goal.returns
returns c = c.to_ascii_lowercase.ensures.value ∙ lower-is c.args.c
