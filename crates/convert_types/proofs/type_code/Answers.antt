use Rattle.convert_types.proofs.Places.{code_below, code-over}
use Rattle.convert_types.proofs.type_code.Goals as goal

pub returns-then-c-n : goal.returns-then-c-n
returns-then-c-n c = code_below _ _ _ c.place_of-c.ensures c.if-c-n.true

pub returns : goal.returns
returns c = code-over _ _ _ c.place_of-c.ensures c.if-c-n.false
