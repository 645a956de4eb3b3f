use Prim.Native.Nat.{◌-◌}
use lib.ListN.{length, drop}
use Rattle.text.specs.Reader.{taken}
use Rattle.output.specs.Put.{Rest}
use Rattle.json_write.specs.Pieces.{bare}
use Rattle.json_write.proofs.put_bare.Given as goal

abbrev pub invariant-loop-out : goal.invariant-loop-out
invariant-loop-out l = Rest l.initial.out (taken bare (drop l.at l.s)) (taken bare (drop l.i l.s)) l.k l.out

abbrev pub decreases-loop-out : goal.decreases-loop-out
decreases-loop-out l = length l.s - l.i
