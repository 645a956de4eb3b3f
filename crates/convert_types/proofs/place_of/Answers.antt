use mathlib.Core.Path.{sym, ◌∙◌}
use Rattle.text.specs.Bytes.{ascii, same}
use Rattle.convert.specs.Table.{position}
use Rattle.convert_types.proofs.Places.{is-type, no-type}
use Rattle.convert_types.proofs.place_of.Goals as goal

pub returns-then-is_named : goal.returns-then-is_named
unfolding position same
returns-then-is_named c = sym (is-type _ (ascii "home") (sym c.is_named.ensures ∙ c.if-is_named.true))

pub returns-then-is_named-2 : goal.returns-then-is_named-2
unfolding position same
returns-then-is_named-2 c = sym (is-type _ (ascii "work") (sym c.is_named-2.ensures ∙ c.if-is_named-2.true))

pub returns-then-is_named-3 : goal.returns-then-is_named-3
unfolding position same
returns-then-is_named-3 c = sym (is-type _ (ascii "fax") (sym c.is_named-3.ensures ∙ c.if-is_named-3.true))

pub returns-then-is_named-4 : goal.returns-then-is_named-4
unfolding position same
returns-then-is_named-4 c = sym (is-type _ (ascii "cell") (sym c.is_named-4.ensures ∙ c.if-is_named-4.true))

pub returns-then-is_named-5 : goal.returns-then-is_named-5
unfolding position same
returns-then-is_named-5 c = sym (is-type _ (ascii "pager") (sym c.is_named-5.ensures ∙ c.if-is_named-5.true))

pub returns-then-is_named-6 : goal.returns-then-is_named-6
unfolding position same
returns-then-is_named-6 c = sym (is-type _ (ascii "text") (sym c.is_named-6.ensures ∙ c.if-is_named-6.true))

pub returns-then-is_named-7 : goal.returns-then-is_named-7
unfolding position same
returns-then-is_named-7 c = sym (is-type _ (ascii "textphone") (sym c.is_named-7.ensures ∙ c.if-is_named-7.true))

pub returns-then-is_named-8 : goal.returns-then-is_named-8
unfolding position same
returns-then-is_named-8 c = sym (is-type _ (ascii "video") (sym c.is_named-8.ensures ∙ c.if-is_named-8.true))

pub returns-then-is_named-9 : goal.returns-then-is_named-9
unfolding position same
returns-then-is_named-9 c = sym (is-type _ (ascii "voice") (sym c.is_named-9.ensures ∙ c.if-is_named-9.true))

pub returns : goal.returns
returns c =
    let is-named = c.is_named in
    let if1 = c.if-is_named in
    let is-named2 = c.is_named-2 in
    let if2 = c.if-is_named-2 in
    let is-named3 = c.is_named-3 in
    let if3 = c.if-is_named-3 in
    let is-named4 = c.is_named-4 in
    let if4 = c.if-is_named-4 in
    let is-named5 = c.is_named-5 in
    let if5 = c.if-is_named-5 in
    let is-named6 = c.is_named-6 in
    let if6 = c.if-is_named-6 in
    let is-named7 = c.is_named-7 in
    let if7 = c.if-is_named-7 in
    let is-named8 = c.is_named-8 in
    let if8 = c.if-is_named-8 in
    sym
    (no-type _ (sym is-named.ensures ∙ if1.false) (sym is-named2.ensures ∙ if2.false) (sym is-named3.ensures ∙ if3.false)
    (sym is-named4.ensures ∙ if4.false) (sym is-named5.ensures ∙ if5.false) (sym is-named6.ensures ∙ if6.false)
    (sym is-named7.ensures ∙ if7.false) (sym is-named8.ensures ∙ if8.false) (sym c.is_named-9.ensures ∙ c.if-is_named-9.false))
