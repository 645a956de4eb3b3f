use Prim.Native.Nat.{◌-◌}
use lib.ListN.{length}
use Rattle.json_compact.specs.Stands.{Stands}
use Rattle.json_compact.proofs.run_end.Given as goal

abbrev pub invariant-loop-at : goal.invariant-loop-at
invariant-loop-at l = Stands l.s l.at l.i

abbrev pub decreases-loop-at : goal.decreases-loop-at
decreases-loop-at l = length l.s - l.i
