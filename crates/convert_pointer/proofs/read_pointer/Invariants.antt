use Prim.Native.Nat.{◌-◌, ◌≤◌}
use lib.ListN.{length, drop}
use Rattle.output.specs.Put.{Rest}
use Rattle.convert_pointer.specs.Name.{name_in, Pointing}
use Rattle.convert_pointer.proofs.read_pointer.Given as goal

abbrev pub invariant-loop-i : goal.invariant-loop-i
invariant-loop-i l = (l.i ≤ length l.p) × Pointing (drop l.i l.p) × Rest l.initial.out (name_in l.p) (name_in (drop l.i l.p)) l.at l.out

abbrev pub decreases-loop-i : goal.decreases-loop-i
decreases-loop-i l = length l.p - l.i
