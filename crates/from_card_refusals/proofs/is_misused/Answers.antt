use mathlib.Core.Path.{sym, ap, ◌∙◌}
use mathlib.Core.Bool.{not}
use borrow.Author.Tests.{eq-eqb, ne_eqb}
use Rattle.line_table.specs.Table.{line_in}
use Rattle.from_card_refusals.proofs.Lines.{group-told, misused-group, misused-value, uid-grouped, uid-params, kind-grouped, kind-params, other-used, params-empty}
use Rattle.from_card_refusals.proofs.is_misused.Goals as goal

pub returns-then-rows-ne0 : goal.returns-then-rows-ne0
returns-then-rows-ne0 c =
    sym (misused-group (line_in c.args.s.now c.args.t.now) (group-told c.requires.0.row ∙ ap not (ne_eqb _ 0 c.if-rows-ne0.true)))

pub returns-then-not-value_fits : goal.returns-then-not-value_fits
returns-then-not-value_fits c =
    sym (misused-value (line_in c.args.s.now c.args.t.now) (sym (c.value_fits.ensures _ c.requires.0.row) ∙ c.if-not-value_fits.true))

pub returns-then-has_group : goal.returns-then-has_group
returns-then-has_group c =
    sym (uid-grouped (line_in c.args.s.now c.args.t.now) c.args.code c.requires.1
    (group-told c.requires.0.row ∙ ap not (eq-eqb _ 0 c.if-rows-ne0.false)) (sym (c.value_fits.ensures _ c.requires.0.row) ∙ c.if-not-value_fits.false)
    c.if-code-eq-UID.true (c.has_group.ensures ∙ ap not c.if-has_group.true))

pub returns-then-code-eq-UID : goal.returns-then-code-eq-UID
returns-then-code-eq-UID c =
    ap not c.only_uri.ensures ∙ sym (uid-params (line_in c.args.s.now c.args.t.now) c.args.code c.requires.1
    (group-told c.requires.0.row ∙ ap not (eq-eqb _ 0 c.if-rows-ne0.false)) (sym (c.value_fits.ensures _ c.requires.0.row) ∙ c.if-not-value_fits.false)
    c.if-code-eq-UID.true (c.has_group.ensures ∙ ap not c.if-has_group.false))

pub returns-then-has_group-2 : goal.returns-then-has_group-2
returns-then-has_group-2 c =
    sym (kind-grouped (line_in c.args.s.now c.args.t.now) c.args.code c.requires.1
    (group-told c.requires.0.row ∙ ap not (eq-eqb _ 0 c.if-rows-ne0.false)) (sym (c.value_fits.ensures _ c.requires.0.row) ∙ c.if-not-value_fits.false) c.if-code-eq-KIND.true (c.has_group-then-code-eq-KIND.ensures ∙ ap not c.if-has_group-2.true))

pub returns-then-code-eq-KIND : goal.returns-then-code-eq-KIND
returns-then-code-eq-KIND c =
    sym (kind-params (line_in c.args.s.now c.args.t.now) c.args.code c.requires.1
    (group-told c.requires.0.row ∙ ap not (eq-eqb _ 0 c.if-rows-ne0.false)) (sym (c.value_fits.ensures _ c.requires.0.row) ∙ c.if-not-value_fits.false) c.if-code-eq-KIND.true (c.has_group-then-code-eq-KIND.ensures ∙ ap not c.if-has_group-2.false) ∙ ap not (params-empty c.args.s.now c.args.t.now))

pub returns : goal.returns
returns c =
    sym (other-used (line_in c.args.s.now c.args.t.now) c.args.code c.requires.1 (group-told c.requires.0.row ∙ ap not (eq-eqb _ 0 c.if-rows-ne0.false)) (sym (c.value_fits.ensures _ c.requires.0.row) ∙ c.if-not-value_fits.false) c.if-code-eq-UID.false c.if-code-eq-KIND.false)
