use mathlib.Core.Path.{ap}
use mathlib.Core.Bool.{not}
use Rattle.to_card_value.proofs.Units.{clear-two, one_name, unit-flat, unit-more, unit-is}
use Rattle.to_card_value.proofs.unit_in.Goals as goal

pub index_object-requires : goal.index_object-requires
index_object-requires c = record { at_in_bounds = c.requires; names_in_bounds = one_name; clear = clear-two }

pub returns-then-not-index_object : goal.returns-then-not-index_object
returns-then-not-index_object c = unit-flat c.args.s.now c.args.at _ c.index_object.result c.index_object.ensures (ap not c.if-not-index_object.true)

pub returns-then-slots-ne0 : goal.returns-then-slots-ne0
returns-then-slots-ne0 c = unit-more c.args.s.now c.args.at _ c.index_object.result c.index_object.ensures (ap not c.if-not-index_object.false) c.if-slots-ne0.true

pub returns : goal.returns
returns c = unit-is c.args.s.now c.args.at _ c.index_object.result c.index_object.ensures (ap not c.if-not-index_object.false) c.if-slots-ne0.false c.text_in.result c.text_in.ensures
