use mathlib.Core.List.{◌∷◌}
use native.Mathlib.Omega.{arith}
use lib.ListN.{get_or}
use Rattle.line_table.specs.Table.{part}
use Rattle.line_pen.proofs.Laws.{first!, next! }
use Rattle.to_card_lines.proofs.Laws.{fills-in, fills-length}
use Rattle.to_card_kept_entry.proofs.writing.Lines.{end-then, kept_put}
use Rattle.to_card_kept_entry.proofs.writing.put_kept_line.Goals as goal

pub overflow_add-n3 : goal.overflow_add-n3
overflow_add-n3 c =
    let a = c.args in
    let pen-head = c.pen_head-p in
    let pen-params = c.pen_params-q in
    let pen-end = c.pen_end-z in
    let g = c.well_formed in
    record { fits = omega (arith, fills-in (end-then (58 ∷ part a.b.now (get_or a.t.now 4 0) (get_or a.t.now 5 0)) (next! (first! pen-head.ensures) pen-params.ensures.pens).so pen-end.ensures.0), g.0.0) }

pub returns : goal.returns
returns c =
    let a = c.args in
    let pen-head = c.pen_head-p in
    let pen-params = c.pen_params-q in
    let pen-end = c.pen_end-z in
    let e = end-then (58 ∷ part a.b.now (get_or a.t.now 4 0) (get_or a.t.now 5 0)) (next! (first! pen-head.ensures) pen-params.ensures.pens).so pen-end.ensures.0 in
    record { bytes_in_bounds = fills-in e; out_len_unchanged = fills-length e; puts_kept = kept_put a.b.now a.t.now e pen-params.ensures.carried pen-end.ensures.1 }
