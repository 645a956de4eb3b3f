use Rattle.line_pen.proofs.Filling.{then}
use Rattle.line_pen.proofs.Laws.{filled, first!, next! }
use Rattle.to_card_lines.proofs.put_string_line.Goals as goal

pub returns : goal.returns
returns c =
    let q = c.pen_string-q.ensures in
    record { text = q.text; is = q.is; fills = then (filled (next! (first! c.pen_bytes-p.ensures) q.pens).so) c.fill-z.ensures; carried = q.carried }
