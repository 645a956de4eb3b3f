use Rattle.line_pen.proofs.Laws.{pens-then}
use Rattle.to_card_value.proofs.pen_text.Goals as goal

pub returns : goal.returns
returns c = record {
  text = c.pen_string-q.ensures.text;
  is = c.pen_string-q.ensures.is;
  pens = pens-then c.pen_bytes-p.ensures c.pen_string-q.ensures.pens;
  carried = c.pen_string-q.ensures.carried;
}
