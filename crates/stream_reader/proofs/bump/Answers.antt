use Rattle.stream_reader.proofs.Laws.{tests}
use Rattle.stream_reader.proofs.bump.Goals as goal

pub returns-then-n-top : goal.returns-then-n-top
returns-then-n-top c = search tests

pub returns-else-n-top : goal.returns-else-n-top
returns-else-n-top c = search tests
