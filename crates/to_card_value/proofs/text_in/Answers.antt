use Rattle.to_card_value.proofs.Strings.{text-absent, text-there}
use Rattle.to_card_value.proofs.text_in.Goals as goal

pub returns-then-slot-eq0 : goal.returns-then-slot-eq0
returns-then-slot-eq0 c = text-absent c.args.s.now c.args.slot c.if-slot-eq0.true

pub returns : goal.returns
returns c = text-there c.args.s.now c.args.slot c.string_in.result c.if-slot-eq0.false c.string_in.ensures
