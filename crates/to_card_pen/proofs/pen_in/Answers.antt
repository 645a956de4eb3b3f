use Rattle.line_pen.proofs.Laws.{pens-as}
use Rattle.to_card_pen.proofs.Styles.{in-text, in_parts, in-raw}
use Rattle.to_card_pen.proofs.pen_in.Goals as goal

pub returns-then-style-eq-TEXT : goal.returns-then-style-eq-TEXT
returns-then-style-eq-TEXT c = pens-as (in-text _ _ c.if-style-eq-TEXT.true) c.pen_escape.ensures

pub returns-then-style-eq-PARTS : goal.returns-then-style-eq-PARTS
returns-then-style-eq-PARTS c = pens-as (in_parts _ _ c.if-style-eq-TEXT.false c.if-style-eq-PARTS.true) c.pen_escape-then-style-eq-PARTS.ensures

pub returns : goal.returns
returns c = pens-as (in-raw _ _ c.if-style-eq-TEXT.false c.if-style-eq-PARTS.false) c.pen_byte.ensures
