use mathlib.Core.Bool.{not}
use mathlib.Core.Path.{sym, ap, ◌∙◌}
use mathlib.Core.Bool.{true, false}
use Rattle.text.specs.Choice.{is_some}
use Rattle.text.proofs.Cases.{not-false}
use Rattle.convert.specs.Value.{read_name}
use Rattle.line_table.specs.Table.{line_in}
use Rattle.table_entry.proofs.Entry.{value-is}
use Rattle.class_name_lines.proofs.Derived.{none-besides}
use Rattle.class_name_lines.proofs.Full.{parts_again, parts-unbare, parts-params, parts-read}
use Rattle.class_name_lines.proofs.parts_class.Goals as goal

pub returns-then-parts : goal.returns-then-parts
returns-then-parts c =
    λ seen e. parts_again (line_in c.args.s.now c.args.t.now) seen
    (e ∙ c.if-parts.true)

pub returns-then-not-is_bare : goal.returns-then-not-is_bare
returns-then-not-is_bare c =
    λ seen e. parts-unbare
    (line_in c.args.s.now c.args.t.now)
    seen (c.is_bare.ensures ∙ c.if-not-is_bare.true)

pub returns-then-not-no_params : goal.returns-then-not-no_params
returns-then-not-no_params c =
    λ seen e. parts-params (line_in c.args.s.now
    c.args.t.now) seen (c.is_bare.ensures ∙ not-false _
    (ap not c.if-not-is_bare.false)) (none-besides c.requires.row ∙ sym
    c.no_params.ensures ∙ c.if-not-no_params.true)

pub returns-then-not-is_name : goal.returns-then-not-is_name
returns-then-not-is_name c =
    λ seen e. parts-read (line_in c.args.s.now
    c.args.t.now) seen
    (c.is_bare.ensures ∙ c.if-not-is_bare.false)
    (e ∙ c.if-parts.false) (none-besides
    c.requires.row ∙ sym
    c.no_params.ensures ∙ c.if-not-no_params.false) false (sym (ap (λ u. is_some
    (read_name u)) (value-is c.args.s.now
    c.args.t.now) ∙ sym
    c.is_name.ensures ∙ c.if-not-is_name.true))

pub returns : goal.returns
returns c =
    λ seen e. parts-read (line_in c.args.s.now
    c.args.t.now) seen
    (c.is_bare.ensures ∙ c.if-not-is_bare.false)
    (e ∙ c.if-parts.false) (none-besides
    c.requires.row ∙ sym
    c.no_params.ensures ∙ c.if-not-no_params.false) true (sym (ap (λ u. is_some
    (read_name u)) (value-is c.args.s.now
    c.args.t.now) ∙ sym
    c.is_name.ensures ∙ c.if-not-is_name.false))
