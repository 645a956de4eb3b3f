use Rattle.table_params.proofs.Notes.{Marking}
use Rattle.table_params.proofs.mark_rows.Given as goal

abbrev pub invariant-loop-k : goal.invariant-loop-k
invariant-loop-k l = Marking l.n l.initial.row l.s l.t l.row l.k
