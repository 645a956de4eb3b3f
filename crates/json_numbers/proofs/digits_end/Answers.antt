use mathlib.Core.Path.{sym, ◌∙◌}
use Rattle.json_numbers.proofs.Laws.{digits-to, digits-none}
use Rattle.json_numbers.proofs.digits_end.Goals as goal

pub returns-then-is_digit : goal.returns-then-is_digit
returns-then-is_digit c = digits-to _ _ c.look.result c.look.ensures.0 (sym c.is_digit.ensures ∙ c.if-is_digit.true) c.past_digits.ensures

pub returns : goal.returns
returns c = digits-none _ _ c.look.result c.look.ensures.0 (sym c.is_digit.ensures ∙ c.if-is_digit.false) c.requires
