use Rattle.from_card_garbled.proofs.Lines.{Sought}
use Rattle.from_card_garbled.proofs.first_garbled.Given as goal

abbrev pub invariant-loop-k : goal.invariant-loop-k
invariant-loop-k l = Sought l.scratch l.starts l.n l.k
