use mathlib.Core.Path.{sym, ◌∙◌}
use Rattle.class_name_lines.proofs.Names.{too-many-parts, all-empty, escapes-alone}
use Rattle.class_name_lines.proofs.is_name.Goals as goal

pub returns-then-not-few_parts : goal.returns-then-not-few_parts
returns-then-not-few_parts c = sym (too-many-parts _ (sym c.few_parts.ensures ∙ c.if-not-few_parts.true))

pub returns-then-not-has_other : goal.returns-then-not-has_other
returns-then-not-has_other c =
    sym
    (all-empty _ (sym c.few_parts.ensures ∙ c.if-not-few_parts.false)
    (sym c.has_other.ensures ∙ c.if-not-has_other.true))

pub returns : goal.returns
returns c =
    c.is_text.ensures ∙ sym
    (escapes-alone _ (sym c.few_parts.ensures ∙ c.if-not-few_parts.false)
    (sym c.has_other.ensures ∙ c.if-not-has_other.false))
