use mathlib.Core.Path.{sym, ◌∙◌}
use Rattle.line_class.proofs.Odd.{plain}
use Rattle.line_class.proofs.is_garbled.Goals as goal

pub returns-then-not-has_odd : goal.returns-then-not-has_odd
returns-then-not-has_odd c = sym (plain c.args.line.now (sym c.has_odd.ensures ∙ c.if-not-has_odd.true))

pub returns-then-not-is_utf8 : goal.returns-then-not-is_utf8
returns-then-not-is_utf8 c = rw (sym c.is_utf8.ensures ∙ c.if-not-is_utf8.true)

pub returns : goal.returns
returns c = rw (sym c.is_utf8.ensures ∙ c.if-not-is_utf8.false) c.has_control.ensures
