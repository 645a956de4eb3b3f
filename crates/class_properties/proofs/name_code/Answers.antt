use mathlib.Core.Path.{sym, ◌∙◌}
use Rattle.text.specs.Bytes.{ascii}
use Rattle.line_name.proofs.Names.{lowered-length}
use Rattle.class_properties.proofs.Numbers.{number_is, no_name, number-n, number-fn, number-version, number-nickname, number-jsprop}
use Rattle.class_properties.proofs.name_code.Goals as goal

pub returns-then-is_named : goal.returns-then-is_named
returns-then-is_named c = number_is _ (ascii "n") _ number-n (sym c.is_named.ensures ∙ c.if-is_named.true)

pub returns-then-is_named-2 : goal.returns-then-is_named-2
returns-then-is_named-2 c = number_is _ (ascii "fn") _ number-fn (sym c.is_named-2.ensures ∙ c.if-is_named-2.true)

pub returns-then-is_named-3 : goal.returns-then-is_named-3
returns-then-is_named-3 c = number_is _ (ascii "version") _ number-version (sym c.is_named-3.ensures ∙ c.if-is_named-3.true)

pub returns-then-is_named-4 : goal.returns-then-is_named-4
returns-then-is_named-4 c = number_is _ (ascii "nickname") _ number-nickname (sym c.is_named-4.ensures ∙ c.if-is_named-4.true)

pub returns-then-is_named-5 : goal.returns-then-is_named-5
returns-then-is_named-5 c = number_is _ (ascii "jsprop") _ number-jsprop (sym c.is_named-5.ensures ∙ c.if-is_named-5.true)

pub returns : goal.returns
returns c =
    no_name _ (λ e. c.if-n-eq3.false
    (sym (lowered-length _) ∙ e)) (λ e.
    c.if-n-eq5.false (sym (lowered-length _) ∙ e))
    (λ e. c.if-n-eq4.false (sym (lowered-length _) ∙ e))
    (sym c.is_named.ensures ∙
    c.if-is_named.false) (sym
    c.is_named-2.ensures ∙
    c.if-is_named-2.false) (sym
    c.is_named-3.ensures ∙ c.if-is_named-3.false) (sym
    c.is_named-4.ensures ∙ c.if-is_named-4.false) (sym c.is_named-5.ensures ∙ c.if-is_named-5.false)
