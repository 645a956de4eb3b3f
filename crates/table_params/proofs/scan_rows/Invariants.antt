use Rattle.table_params.proofs.Notes.{Going}
use Rattle.table_params.proofs.scan_rows.Given as goal

abbrev pub invariant-loop-k : goal.invariant-loop-k
invariant-loop-k l = Going l.initial.counts l.initial.froms l.initial.tos l.s l.t l.counts l.froms l.tos l.k
