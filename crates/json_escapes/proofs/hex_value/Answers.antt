use mathlib.Core.Path.{sym, ◌∙◌}
use Rattle.json_escapes.proofs.Laws.{digit-09, digit-AF, digit-af}
use Rattle.json_escapes.proofs.hex_value.Goals as goal

pub overflow_sub-result : goal.overflow_sub-result
overflow_sub-result c = (digit-09 _ (sym c.in_range.ensures ∙ c.if-in_range.true)).0

pub returns-then-in_range : goal.returns-then-in_range
returns-then-in_range c = let h = digit-09 _ (sym c.in_range.ensures ∙ c.if-in_range.true) in (h.1, h.2)

pub overflow_sub-result-then-in_range-2 : goal.overflow_sub-result-then-in_range-2
overflow_sub-result-then-in_range-2 c = (digit-AF _ (sym c.in_range.ensures ∙ c.if-in_range.false) (sym c.in_range-2.ensures ∙ c.if-in_range-2.true)).0

pub returns-then-in_range-2 : goal.returns-then-in_range-2
returns-then-in_range-2 c = let h = digit-AF _ (sym c.in_range.ensures ∙ c.if-in_range.false) (sym c.in_range-2.ensures ∙ c.if-in_range-2.true) in (h.1, h.2)

pub overflow_sub-result-2 : goal.overflow_sub-result-2
overflow_sub-result-2 c = (digit-af _ c.requires (sym c.in_range.ensures ∙ c.if-in_range.false) (sym c.in_range-2.ensures ∙ c.if-in_range-2.false)).0

pub returns : goal.returns
returns c = let h = digit-af _ c.requires (sym c.in_range.ensures ∙ c.if-in_range.false) (sym c.in_range-2.ensures ∙ c.if-in_range-2.false) in (h.1, h.2)
