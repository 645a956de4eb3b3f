use Rattle.stream_cards.proofs.Demand.{step_counts}
use Rattle.cards.proofs.step_within.Goals as goal

pub returns : goal.returns
returns c = step_counts c.args.s c.args.stem.now c.args.piece.now c.args.buffer.now c.args.out.now c.step.result c.step.new.buffer c.step.new.out c.step.ensures
