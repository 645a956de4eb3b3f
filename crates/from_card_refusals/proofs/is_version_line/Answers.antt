use mathlib.Core.Path.{sym, ap, ◌∙◌}
use mathlib.Core.Bool.{not}
use borrow.Author.Tests.{eq-eqb, ne_eqb}
use Rattle.text.specs.Bytes.{same, ascii}
use Rattle.line_table.specs.Table.{line_in}
use Rattle.table_entry.proofs.Entry.{value-is}
use Rattle.from_card_refusals.proofs.Lines.{other_name, version-grouped, version-params, version-value, params-empty}
use Rattle.from_card_refusals.proofs.is_version_line.Goals as goal

pub returns-then-code-ne-VERSION : goal.returns-then-code-ne-VERSION
returns-then-code-ne-VERSION c =
    sym (other_name (line_in c.args.s.now c.args.t.now) c.args.code c.requires.1 c.if-code-ne-VERSION.true)

pub returns-then-has_group : goal.returns-then-has_group
returns-then-has_group c =
    sym (version-grouped (line_in c.args.s.now c.args.t.now) c.args.code c.requires.1 (c.has_group.ensures ∙ ap not c.if-has_group.true))

pub returns-then-t-ne0 : goal.returns-then-t-ne0
returns-then-t-ne0 c =
    sym (version-params (line_in c.args.s.now c.args.t.now) c.args.code c.requires.1 c.if-code-ne-VERSION.false (c.has_group.ensures ∙ ap not c.if-has_group.false) (params-empty c.args.s.now c.args.t.now ∙ ne_eqb _ 0 c.if-t-ne0.true))

pub returns : goal.returns
returns c =
    c.same_bytes.ensures ∙ sym (version-value (line_in c.args.s.now c.args.t.now) c.args.code c.requires.1 c.if-code-ne-VERSION.false (c.has_group.ensures ∙ ap not c.if-has_group.false)
    (params-empty c.args.s.now c.args.t.now ∙ eq-eqb _ 0 c.if-t-ne0.false)
    ∙ ap (λ v. same v (ascii "4.0")) (value-is c.args.s.now c.args.t.now))
