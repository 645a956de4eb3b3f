use mathlib.Core.Path.{sym, ap, ◌∙◌}
use mathlib.Core.Bool.{Bool}
use native.Mathlib.Omega.{arith}
use Rattle.text.specs.Choice.{pick}
use Rattle.line_table.specs.Table.{name_at}
use Rattle.line_write.proofs.Naming.{pointer-named}
use Rattle.to_card_kept_entry.specs.writing.Line.{is_pointer}
use Rattle.to_card_kept_entry.proofs.writing.is_quoted.Goals as goal

pub slice_bounds-is_named-count : goal.slice_bounds-is_named-count
slice_bounds-is_named-count c =
    let h = c.requires in
    let v = h.0.rows.name c.args.i h.1 in omega (arith, v.ordered, v.within)

pub slice_bounds-is_named-start : goal.slice_bounds-is_named-start
slice_bounds-is_named-start c =
    let h = c.requires in
    let v = h.0.rows.name c.args.i h.1 in omega (arith, v.ordered, v.within)

pub slice_bounds-is_named-end : goal.slice_bounds-is_named-end
slice_bounds-is_named-end c =
    let h = c.requires in
    let v = h.0.rows.name c.args.i h.1 in omega (arith, v.ordered, v.within)

pub returns : goal.returns
returns c =
    let a = c.args in
    let if1 = c.if-more in
    c.is_named.ensures ∙ pointer-named (name_at a.b.now a.t.now a.i) ∙ sym (ap (λ (x : Bool). pick x a.last (is_pointer (name_at a.b.now a.t.now a.i))) if1.false)
