use Prim.Native.Nat.{◌≤◌}
use lib.ListN.{length, drop}
use Rattle.text.specs.Places.{Read}
use Rattle.text.specs.Places.{Gives}
use Rattle.json_text.specs.Syntax.{tail_bytes}
use Rattle.json_chars.proofs.tails_end.Given as goal

abbrev pub invariant-loop-left : goal.invariant-loop-left
invariant-loop-left l = (l.i ≤ length l.s) × ((r : Read) → Gives l.s l.i (tail_bytes l.left (drop l.i l.s)) r → Gives l.s l.at (tail_bytes l.count (drop l.at l.s)) r)

abbrev pub decreases-loop-left : goal.decreases-loop-left
decreases-loop-left l = l.left
