use mathlib.Core.Path.{sym, ap, ◌∙◌}
use Rattle.line_class.specs.Classes.{in_class}
use Rattle.line_class.proofs.in_run.Goals as goal

pub returns-in-Name : goal.returns-in-Name
returns-in-Name c = c.is_name.ensures ∙ sym (ap (λ k. in_class k c.args.b) c.in-Name.is)

pub returns-in-Bare : goal.returns-in-Bare
returns-in-Bare c = c.is_bare.ensures ∙ sym (ap (λ k. in_class k c.args.b) c.in-Bare.is)

pub returns-in-Quotable : goal.returns-in-Quotable
returns-in-Quotable c = c.is_quotable.ensures ∙ sym (ap (λ k. in_class k c.args.b) c.in-Quotable.is)
