use Rattle.to_card_value.proofs.Pieces.{on-less, on-last}
use Rattle.to_card_value.proofs.onward.Goals as goal

pub returns-then-k-lt-TEL : goal.returns-then-k-lt-TEL
returns-then-k-lt-TEL c = on-less _ c.if-k-lt-TEL.true

pub returns : goal.returns
returns c = on-last _ c.if-k-lt-TEL.false
