use Rattle.to_card_pen.proofs.Styles.{control-del, control-tab, control-low}
use Rattle.to_card_pen.proofs.is_control.Goals as goal

pub returns-then-c-eq127 : goal.returns-then-c-eq127
returns-then-c-eq127 c = control-del _ c.if-c-eq127.true

pub returns-then-c-eq9 : goal.returns-then-c-eq9
returns-then-c-eq9 c = control-tab _ c.if-c-eq9.true

pub returns : goal.returns
returns c = control-low _ c.if-c-eq127.false c.if-c-eq9.false
