use mathlib.Core.Path.{sym, ◌∙◌}
use Rattle.json_text.specs.Grammar.{is_hex}
use Rattle.json_escapes.proofs.is_hex.Goals as goal

pub returns-then-in_range : goal.returns-then-in_range
unfolding is_hex
returns-then-in_range c = rw (sym c.in_range.ensures ∙ c.if-in_range.true)

pub returns-then-in_range-2 : goal.returns-then-in_range-2
unfolding is_hex
returns-then-in_range-2 c = rw (sym c.in_range.ensures ∙ c.if-in_range.false, sym c.in_range-2.ensures ∙ c.if-in_range-2.true)

pub returns : goal.returns
unfolding is_hex
returns c = rw (sym c.in_range.ensures ∙ c.if-in_range.false, sym c.in_range-2.ensures ∙ c.if-in_range-2.false) c.in_range-3.ensures
