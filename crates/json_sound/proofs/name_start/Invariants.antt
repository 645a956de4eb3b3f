use Prim.Native.Nat.{◌-◌}
use lib.ListN.{length}
use Rattle.json_sound.proofs.Starts.{StartsTo}
use Rattle.json_sound.proofs.name_start.Given as goal

abbrev pub invariant-loop-at : goal.invariant-loop-at
invariant-loop-at l = StartsTo l.s l.at l.i l.p

abbrev pub decreases-loop-at : goal.decreases-loop-at
decreases-loop-at l = length l.s - l.i
