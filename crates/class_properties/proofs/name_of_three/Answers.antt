use mathlib.Core.Path.{sym, ◌∙◌}
use Rattle.text.specs.Bytes.{ascii}
use Rattle.line_name.proofs.Names.{lowered-length}
use Rattle.class_properties.proofs.Numbers.{number_is, no-three, number-tel, number-url, number-org, number-uid}
use Rattle.class_properties.proofs.name_of_three.Goals as goal

pub returns-then-is_named : goal.returns-then-is_named
returns-then-is_named c = number_is _ (ascii "tel") _ number-tel (sym c.is_named.ensures ∙ c.if-is_named.true)

pub returns-then-is_named-2 : goal.returns-then-is_named-2
returns-then-is_named-2 c = number_is _ (ascii "url") _ number-url (sym c.is_named-2.ensures ∙ c.if-is_named-2.true)

pub returns-then-is_named-3 : goal.returns-then-is_named-3
returns-then-is_named-3 c = number_is _ (ascii "org") _ number-org (sym c.is_named-3.ensures ∙ c.if-is_named-3.true)

pub returns-then-is_named-4 : goal.returns-then-is_named-4
returns-then-is_named-4 c = number_is _ (ascii "uid") _ number-uid (sym c.is_named-4.ensures ∙ c.if-is_named-4.true)

pub returns : goal.returns
returns c =
    no-three _ (lowered-length _ ∙ c.requires) (sym
    c.is_named.ensures ∙
    c.if-is_named.false) (sym
    c.is_named-2.ensures ∙ c.if-is_named-2.false) (sym
    c.is_named-3.ensures ∙ c.if-is_named-3.false) (sym c.is_named-4.ensures ∙ c.if-is_named-4.false)
