-- Each time round: the first i bytes are written.
use Prim.Native.Nat.{◌≤◌}
use lib.ListN.{length, take}
use Rattle.output.specs.Put.{Sofar}
use Rattle.output.proofs.put_text.Given as goal

abbrev pub invariant-loop-i : goal.invariant-loop-i
invariant-loop-i l = (l.i ≤ length l.src) × Sofar l.initial.out (take l.i l.src) l.i l.out
