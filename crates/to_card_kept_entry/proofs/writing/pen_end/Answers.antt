use mathlib.Core.Path.{◌∙◌}
use Rattle.line_pen.proofs.Filling.{then}
use Rattle.line_pen.proofs.Laws.{filled, first!, next! }
use Rattle.to_card_pen.proofs.Styles.{stands-raw}
use Rattle.to_card_kept_entry.proofs.writing.pen_end.Goals as goal

pub returns : goal.returns
returns c =
    let pen-byte = c.pen_byte-p in
    let pen-told = c.pen_told-q in
    let fill = c.fill-z in
    let a = c.args in
    (then (filled (next! (first! pen-byte.ensures) pen-told.ensures.pens).so) fill.ensures, pen-told.ensures.carried ∙ stands-raw a.v.now)
