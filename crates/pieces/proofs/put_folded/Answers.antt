use Rattle.pieces.proofs.Writing.{folded-put, folded-full}
use Rattle.pieces.proofs.put_folded.Goals as goal

pub returns-then-m-lt2 : goal.returns-then-m-lt2
returns-then-m-lt2 c = folded-full c.pen_bytes-p.ensures c.fill-m.ensures c.if-m-lt2.true

pub returns : goal.returns
returns c = folded-put c.pen_bytes-p.ensures c.fill-m.ensures c.if-m-lt2.false
