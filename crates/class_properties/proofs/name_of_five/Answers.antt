use mathlib.Core.Path.{sym, ◌∙◌}
use Rattle.text.specs.Bytes.{ascii}
use Rattle.line_name.proofs.Names.{lowered-length}
use Rattle.class_properties.proofs.Numbers.{number_is, no-five, number-email, number-title}
use Rattle.class_properties.proofs.name_of_five.Goals as goal

pub returns-then-is_named : goal.returns-then-is_named
returns-then-is_named c = number_is _ (ascii "email") _ number-email (sym c.is_named.ensures ∙ c.if-is_named.true)

pub returns-then-is_named-2 : goal.returns-then-is_named-2
returns-then-is_named-2 c = number_is _ (ascii "title") _ number-title (sym c.is_named-2.ensures ∙ c.if-is_named-2.true)

pub returns : goal.returns
returns c =
    no-five _ (lowered-length _ ∙ c.requires)
    (sym c.is_named.ensures ∙ c.if-is_named.false) (sym c.is_named-2.ensures ∙ c.if-is_named-2.false)
