use mathlib.Core.List.{[], ◌∷◌}
use Rattle.output.proofs.Laws.{puts-as, start, done}
use Rattle.to_json_kept.proofs.Whole.{piece-on, piece-off}
use Rattle.to_json_kept.proofs.put_comma.Goals as goal

pub returns-then-begun : goal.returns-then-begun
returns-then-begun c = puts-as (piece-on c.args.begun (44 ∷ []) c.if-begun.true) c.put_byte.ensures

pub returns : goal.returns
returns c = puts-as (piece-off c.args.begun (44 ∷ []) c.if-begun.false) (done (start _))
