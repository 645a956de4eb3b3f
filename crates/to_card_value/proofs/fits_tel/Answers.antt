use Rattle.to_card_value.proofs.Pieces.{tel-0, tel-1, tel-2, tel-3, tel-on}
use Rattle.to_card_value.proofs.fits_tel.Goals as goal

pub returns-then-k-eq0 : goal.returns-then-k-eq0
returns-then-k-eq0 c = tel-0 _ _ c.if-k-eq0.true

pub returns-then-k-eq1 : goal.returns-then-k-eq1
returns-then-k-eq1 c = tel-1 _ _ c.if-k-eq0.false c.if-k-eq1.true

pub returns-then-k-eq2 : goal.returns-then-k-eq2
returns-then-k-eq2 c = tel-2 _ _ c.if-k-eq0.false c.if-k-eq1.false c.if-k-eq2.true

pub returns-then-k-eq3 : goal.returns-then-k-eq3
returns-then-k-eq3 c = tel-3 _ _ c.if-k-eq0.false c.if-k-eq1.false c.if-k-eq2.false c.if-k-eq3.true

pub returns : goal.returns
returns c = tel-on _ _ c.if-k-eq0.false c.if-k-eq1.false c.if-k-eq2.false c.if-k-eq3.false c.is_control.ensures
