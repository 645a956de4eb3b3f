use mathlib.Core.Path.{sym, ◌∙◌}
use Rattle.text.specs.Bytes.{ascii}
use Rattle.line_name.proofs.Names.{lowered-length}
use Rattle.class_properties.proofs.Numbers.{number_is, no-four, number-note, number-role, number-kind}
use Rattle.class_properties.proofs.name_of_four.Goals as goal

pub returns-then-is_named : goal.returns-then-is_named
returns-then-is_named c = number_is _ (ascii "note") _ number-note (sym c.is_named.ensures ∙ c.if-is_named.true)

pub returns-then-is_named-2 : goal.returns-then-is_named-2
returns-then-is_named-2 c = number_is _ (ascii "role") _ number-role (sym c.is_named-2.ensures ∙ c.if-is_named-2.true)

pub returns-then-is_named-3 : goal.returns-then-is_named-3
returns-then-is_named-3 c = number_is _ (ascii "kind") _ number-kind (sym c.is_named-3.ensures ∙ c.if-is_named-3.true)

pub returns : goal.returns
returns c =
    no-four _ (lowered-length _ ∙ c.requires)
    (sym c.is_named.ensures ∙ c.if-is_named.false)
    (sym c.is_named-2.ensures ∙ c.if-is_named-2.false) (sym c.is_named-3.ensures ∙ c.if-is_named-3.false)
