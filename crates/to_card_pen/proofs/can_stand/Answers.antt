use Rattle.to_card_pen.proofs.Styles.{stand-raw, stand-param, stand-text}
use Rattle.to_card_pen.proofs.can_stand.Goals as goal

pub returns-then-style-eq-RAW : goal.returns-then-style-eq-RAW
returns-then-style-eq-RAW c = stand-raw _ _ c.is_control-control.ensures c.if-style-eq-RAW.true

pub returns-then-style-eq-PARAM : goal.returns-then-style-eq-PARAM
returns-then-style-eq-PARAM c = stand-param _ _ c.is_control-control.ensures c.if-style-eq-RAW.false c.if-style-eq-PARAM.true

pub returns : goal.returns
returns c = stand-text _ _ c.is_control-control.ensures c.if-style-eq-RAW.false c.if-style-eq-PARAM.false
