use mathlib.Core.Path.{◌∙◌}
use Rattle.line_class.proofs.Agree.{by-class}
use borrow.Author.Rules.{rules}
use Rattle.line_class.proofs.in_class.Goals as goal

pub returns : goal.returns
returns c = c.marked.ensures ∙ by-class _ c.classes-table.ensures c.args.class _ c.bit-mask.ensures c.args.b (search rules)
