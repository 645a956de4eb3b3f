-- Each time round: the first i bytes of s are written.
use Prim.Native.Nat.{◌≤◌}
use lib.ListN.{length, take}
use Rattle.output.specs.Put.{Sofar}
use Rattle.line_pen.proofs.copy.Given as goal

abbrev pub invariant-loop-i : goal.invariant-loop-i
invariant-loop-i l = (l.i ≤ length l.s) × Sofar l.initial.out (take l.i l.s) l.i l.out
