use Prim.Native.Nat.{◌-◌}
use lib.ListN.{length}
use Rattle.line_table.proofs.Filling.{ValuesLaying}
use Rattle.line_table.proofs.fill_values.Given as goal

abbrev pub invariant-loop-m : goal.invariant-loop-m
invariant-loop-m l = ValuesLaying l.s l.at l.a l.e l.initial.t l.n l.t l.i l.m

abbrev pub decreases-loop-m : goal.decreases-loop-m
decreases-loop-m l = length l.s - l.i
