use Prim.Native.Nat.{ℕ, ◌-◌}
use lib.ListN.{length}
use Rattle.line_frame.specs.Frame.{Ends}
use Rattle.std.specs.Prelude.{Option}
use Rattle.line_frame.proofs.end_from.Given as goal

abbrev pub invariant-loop-i : goal.invariant-loop-i
invariant-loop-i l = (f : Option ℕ) → Ends l.s l.i f → Ends l.s l.at f

abbrev pub decreases-loop-i : goal.decreases-loop-i
decreases-loop-i l = length l.s - l.i
