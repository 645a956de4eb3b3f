use Prim.Native.Nat.{◌-◌}
use lib.ListN.{length}
use Rattle.line_frame.specs.Lines.{SameLf}
use Rattle.line_frame.proofs.lf_at.Given as goal

abbrev pub invariant-loop-i : goal.invariant-loop-i
invariant-loop-i l = SameLf l.s l.at l.i

abbrev pub decreases-loop-i : goal.decreases-loop-i
decreases-loop-i l = length l.s - l.i
