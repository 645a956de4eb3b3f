use mathlib.Core.Bool.{not}
use mathlib.Core.Path.{sym, ap, ◌∙◌}
use mathlib.Core.Bool.{true, false}
use Rattle.text.specs.Choice.{is_some}
use Rattle.text.proofs.Cases.{not-true, not-false}
use Rattle.line.specs.Text.{read_text}
use Rattle.line_table.specs.Table.{line_in}
use Rattle.table_entry.proofs.Entry.{value-is}
use Rattle.class_name_lines.proofs.Derived.{none-besides}
use Rattle.class_name_lines.proofs.Full.{full-unbare, full-dropped, full-again, full-params, full-read}
use Rattle.class_name_lines.proofs.full_class.Goals as goal

pub returns-then-not-is_bare : goal.returns-then-not-is_bare
returns-then-not-is_bare c =
    λ seen e. full-unbare
    (line_in c.args.s.now c.args.t.now) seen
    (c.is_bare.ensures ∙ c.if-not-is_bare.true)

pub returns-then-is_derived : goal.returns-then-is_derived
returns-then-is_derived c =
    λ seen e. full-dropped
    (line_in c.args.s.now c.args.t.now)
    seen (c.is_bare.ensures ∙ c.if-not-is_bare.false) (c.is_derived.ensures ∙ c.if-is_derived.true)

pub returns-then-full : goal.returns-then-full
returns-then-full c =
    λ seen e. full-again (line_in c.args.s.now
    c.args.t.now) seen (c.is_bare.ensures ∙ not-false
    _ (ap not c.if-not-is_bare.false)) (c.is_derived.ensures ∙ c.if-is_derived.false) (e ∙ c.if-full.true)

pub returns-then-not-no_params : goal.returns-then-not-no_params
returns-then-not-no_params c =
    λ seen e. full-params (line_in c.args.s.now
    c.args.t.now) seen
    (c.is_bare.ensures ∙ c.if-not-is_bare.false)
    (c.is_derived.ensures ∙ c.if-is_derived.false) (none-besides
    c.requires.row ∙ sym c.no_params.ensures ∙ not-true _
    (ap not c.if-not-no_params.true))

pub returns-then-not-is_text : goal.returns-then-not-is_text
returns-then-not-is_text c =
    λ seen e. full-read (line_in c.args.s.now c.args.t.now) seen
    (c.is_bare.ensures ∙ not-false _
    (ap not c.if-not-is_bare.false))
    (c.is_derived.ensures ∙
    c.if-is_derived.false) (e ∙ c.if-full.false) (none-besides
    c.requires.row ∙ sym
    c.no_params.ensures ∙ c.if-not-no_params.false) false (sym (ap (λ u. is_some
    (read_text u)) (value-is
    c.args.s.now
    c.args.t.now) ∙ sym
    c.is_text.ensures ∙ c.if-not-is_text.true))

pub returns : goal.returns
returns c =
    λ seen e. full-read (line_in c.args.s.now c.args.t.now) seen
    (c.is_bare.ensures ∙ not-false _
    (ap not c.if-not-is_bare.false))
    (c.is_derived.ensures ∙
    c.if-is_derived.false) (e ∙ c.if-full.false) (none-besides
    c.requires.row ∙ sym
    c.no_params.ensures ∙ c.if-not-no_params.false) true (sym (ap (λ u. is_some
    (read_text u)) (value-is
    c.args.s.now
    c.args.t.now) ∙ sym
    c.is_text.ensures ∙ c.if-not-is_text.false))
