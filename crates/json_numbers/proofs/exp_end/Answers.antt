use Rattle.json_numbers.proofs.Laws.{e-is, E-is, no-e, exp-power, exp-none}
use Rattle.json_numbers.proofs.exp_end.Goals as goal

pub returns-then-b-eq-LETTER_E : goal.returns-then-b-eq-LETTER_E
returns-then-b-eq-LETTER_E c = exp-power _ _ c.look-b.result c.look-b.ensures.0 (e-is _ c.if-b-eq-LETTER_E.true) c.power_end.ensures

pub returns-then-b-eq-CAPITAL_E : goal.returns-then-b-eq-CAPITAL_E
returns-then-b-eq-CAPITAL_E c = exp-power _ _ c.look-b.result c.look-b.ensures.0 (E-is _ c.if-b-eq-CAPITAL_E.true) c.power_end-then-b-eq-CAPITAL_E.ensures

pub returns : goal.returns
returns c = exp-none _ _ c.look-b.result c.look-b.ensures.0 (no-e _ c.if-b-eq-LETTER_E.false c.if-b-eq-CAPITAL_E.false) c.requires
