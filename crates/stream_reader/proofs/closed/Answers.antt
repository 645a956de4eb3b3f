use Rattle.stream_reader.specs.Machine.{closed_of}
use Rattle.stream_reader.proofs.Laws.{tests}
use Rattle.stream_reader.proofs.closed.Goals as goal

pub returns-then-number-gt-NUMBER : goal.returns-then-number-gt-NUMBER
unfolding closed_of
returns-then-number-gt-NUMBER c = search tests

pub returns-then-len-gt-CAP : goal.returns-then-len-gt-CAP
unfolding closed_of
returns-then-len-gt-CAP c = search tests

pub returns : goal.returns
unfolding closed_of
returns c = search tests
