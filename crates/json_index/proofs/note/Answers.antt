use Rattle.json_index.proofs.Slots.{noted-free, noted-taken}
use Rattle.json_index.proofs.note.Goals as goal

pub returns-then-slots-k-eq0 : goal.returns-then-slots-k-eq0
returns-then-slots-k-eq0 c = noted-free _ _ _ c.if-slots-k-eq0.true

pub returns-else-slots-k-eq0 : goal.returns-else-slots-k-eq0
returns-else-slots-k-eq0 c = noted-taken _ _ _ c.if-slots-k-eq0.false
