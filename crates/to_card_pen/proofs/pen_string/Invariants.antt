use Prim.Native.Nat.{◌≤◌}
use lib.ListN.{length}
use Rattle.json_strings.specs.Decoded.{weight}
use Rattle.to_card_pen.proofs.Strings.{Far}
use Rattle.to_card_pen.proofs.pen_string.Given as goal

abbrev pub invariant-loop-b : goal.invariant-loop-b
invariant-loop-b l = (l.i ≤ length l.s) × Far l.s l.at l.style l.initial.out l.column l.n l.k l.ok l.i l.h l.out

abbrev pub decreases-loop-b : goal.decreases-loop-b
decreases-loop-b l = weight l.s l.i l.h
