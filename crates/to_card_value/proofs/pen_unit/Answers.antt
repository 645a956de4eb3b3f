use Rattle.to_card_value.proofs.Pieces.{unit-blank, unit-filled}
use Rattle.to_card_value.proofs.pen_unit.Goals as goal

pub returns-then-is_blank : goal.returns-then-is_blank
returns-then-is_blank c = unit-blank c.args.s.now c.args.at c.is_blank.ensures c.if-is_blank.true

pub returns : goal.returns
returns c = unit-filled c.args.s.now c.args.at c.is_blank.ensures c.if-is_blank.false c.pen_text-t.ensures
