use Prim.Native.Nat.{◌-◌, ◌≤◌}
use lib.ListN.{length, drop}
use Rattle.json_text.specs.Compact.{spelled_all}
use Rattle.output.specs.Put.{Rest}
use Rattle.json_write.proofs.put_spelled.Given as goal

abbrev pub invariant-loop-m : goal.invariant-loop-m
invariant-loop-m l = (l.i ≤ length l.s) × Rest l.initial.out (spelled_all l.s) (spelled_all (drop l.i l.s)) l.at l.out

abbrev pub decreases-loop-m : goal.decreases-loop-m
decreases-loop-m l = length l.s - l.i
