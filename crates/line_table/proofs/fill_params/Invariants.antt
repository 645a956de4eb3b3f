use Prim.Native.Nat.{◌-◌}
use lib.ListN.{length}
use Rattle.line_table.proofs.Filling.{ParamsLaying}
use Rattle.line_table.proofs.fill_params.Given as goal

abbrev pub invariant-loop-at : goal.invariant-loop-at
invariant-loop-at l = ParamsLaying l.s l.at l.initial.t l.t l.i l.n l.k

abbrev pub decreases-loop-at : goal.decreases-loop-at
decreases-loop-at l = length l.s - l.i
