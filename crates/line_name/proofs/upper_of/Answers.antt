use mathlib.Core.Path.{◌∙◌}
use Rattle.line_name.proofs.Names.{upper-is}
use Rattle.line_name.proofs.upper_of.Goals as goal

pub returns : goal.returns
returns c = c.to_ascii_uppercase.ensures.value ∙ upper-is c.args.c
