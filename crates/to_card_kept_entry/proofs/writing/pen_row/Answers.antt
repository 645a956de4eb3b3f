use native.Mathlib.Omega.{arith}
use Rattle.line_table.specs.Table.{name_at, value_at}
use Rattle.to_card_kept_entry.proofs.writing.Bytes.{row-tells}
use Rattle.to_card_kept_entry.proofs.writing.pen_row.Goals as goal

pub slice_bounds-pen_lead-count : goal.slice_bounds-pen_lead-count
slice_bounds-pen_lead-count c =
    let h = c.requires in
    let v = h.0.rows.name c.args.i h.1 in omega (arith, v.ordered, v.within)

pub slice_bounds-pen_lead-start : goal.slice_bounds-pen_lead-start
slice_bounds-pen_lead-start c =
    let h = c.requires in
    let v = h.0.rows.name c.args.i h.1 in omega (arith, v.ordered, v.within)

pub slice_bounds-pen_lead-end : goal.slice_bounds-pen_lead-end
slice_bounds-pen_lead-end c =
    let h = c.requires in
    let v = h.0.rows.name c.args.i h.1 in omega (arith, v.ordered, v.within)

pub slice_bounds-pen_value-count-2 : goal.slice_bounds-pen_value-count-2
slice_bounds-pen_value-count-2 c =
    let h = c.requires in
    let a = c.args in
    let v = h.0.rows.value a.i h.1 in omega (arith, v.ordered, v.within)

pub slice_bounds-pen_value-start-2 : goal.slice_bounds-pen_value-start-2
slice_bounds-pen_value-start-2 c =
    let h = c.requires in
    let a = c.args in
    let v = h.0.rows.value a.i h.1 in omega (arith, v.ordered, v.within)

pub slice_bounds-pen_value-end-2 : goal.slice_bounds-pen_value-end-2
slice_bounds-pen_value-end-2 c =
    let h = c.requires in
    let a = c.args in
    let v = h.0.rows.value a.i h.1 in omega (arith, v.ordered, v.within)

pub returns : goal.returns
returns c =
    let a = c.args in
    let pen-lead = c.pen_lead-p in
    let pen-value = c.pen_value-q in
    row-tells a.more (name_at a.b.now a.t.now a.i) a.quoted (value_at a.b.now a.t.now a.i) pen-lead.ensures pen-value.ensures
