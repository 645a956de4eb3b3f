use mathlib.Core.Path.{sym, ◌∙◌}
use native.Mathlib.Omega.{arith}
use Rattle.text.specs.Bytes.{ascii}
use Rattle.convert_params.proofs.Which.{is-kind, no_kind, kind_0, kind_1, kind_2, kind_3, kind-4, kind-5, kind-6}
use Rattle.convert_params.proofs.kind_of.Goals as goal

pub returns-then-is_named : goal.returns-then-is_named
returns-then-is_named c = (is-kind _ (ascii "prop-id") 0 kind_0 (sym c.is_named.ensures ∙ c.if-is_named.true), omega arith)

pub returns-then-is_named-2 : goal.returns-then-is_named-2
returns-then-is_named-2 c = (is-kind _ (ascii "pref") 1 kind_1 (sym c.is_named-2.ensures ∙ c.if-is_named-2.true), omega arith)

pub returns-then-is_named-3 : goal.returns-then-is_named-3
returns-then-is_named-3 c = (is-kind _ (ascii "type") 2 kind_2 (sym c.is_named-3.ensures ∙ c.if-is_named-3.true), omega arith)

pub returns-then-is_named-4 : goal.returns-then-is_named-4
returns-then-is_named-4 c = (is-kind _ (ascii "value") 3 kind_3 (sym c.is_named-4.ensures ∙ c.if-is_named-4.true), omega arith)

pub returns-then-is_named-5 : goal.returns-then-is_named-5
returns-then-is_named-5 c = (is-kind _ (ascii "jsptr") 4 kind-4 (sym c.is_named-5.ensures ∙ c.if-is_named-5.true), omega arith)

pub returns-then-is_named-6 : goal.returns-then-is_named-6
returns-then-is_named-6 c = (is-kind _ (ascii "derived") 5 kind-5 (sym c.is_named-6.ensures ∙ c.if-is_named-6.true), omega arith)

pub returns-then-is_named-7 : goal.returns-then-is_named-7
returns-then-is_named-7 c = (is-kind _ (ascii "group") 6 kind-6 (sym c.is_named-7.ensures ∙ c.if-is_named-7.true), omega arith)

pub returns : goal.returns
returns c =
    let is-named = c.is_named in
    let if1 = c.if-is_named in
    let is-named2 = c.is_named-2 in
    let if2 = c.if-is_named-2 in
    let is-named3 = c.is_named-3 in
    let if3 = c.if-is_named-3 in
    let is-named4 = c.is_named-4 in
    let if4 = c.if-is_named-4 in
    let is-named5 = c.is_named-5 in
    let if5 = c.if-is_named-5 in
    let is-named6 = c.is_named-6 in
    let if6 = c.if-is_named-6 in (
      sym (no_kind _ (sym is-named.ensures ∙ if1.false) (sym is-named2.ensures ∙ if2.false) (sym is-named3.ensures ∙ if3.false) (sym is-named4.ensures ∙ if4.false) (sym is-named5.ensures ∙ if5.false) (sym is-named6.ensures ∙ if6.false) (sym c.is_named-7.ensures ∙ c.if-is_named-7.false)),
      omega arith,
    )
