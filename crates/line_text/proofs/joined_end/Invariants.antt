use Prim.Native.Nat.{◌-◌}
use lib.ListN.{length}
use Rattle.line_text.specs.Split.{Joined}
use Rattle.line_text.proofs.joined_end.Given as goal

abbrev pub invariant-loop-i : goal.invariant-loop-i
invariant-loop-i l = Joined l.d l.s l.at l.i

abbrev pub decreases-loop-i : goal.decreases-loop-i
decreases-loop-i l = length l.s - l.i
