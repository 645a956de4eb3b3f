use Rattle.pieces.proofs.Writing.{parts-put, parts-full}
use Rattle.pieces.proofs.pieces_put.Goals as goal

pub returns-in_default : goal.returns-in_default
returns-in_default c = parts-full c.in_default.is c.put_parts.ensures

pub returns : goal.returns
returns c = parts-put _ c.in-Ok.is c.put_parts.ensures
