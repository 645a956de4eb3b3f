use mathlib.Core.Path.{◌≡◌}
use Prim.Native.Nat.{◌≤◌, ◌<◌}
use lib.ListN.{length}
use Rattle.json_strings.specs.Decoded.{decoded_at, left, weight}
use Rattle.json_prints.specs.Prints.{print_of}
use Rattle.json_prints.proofs.print_from.Given as goal

abbrev pub invariant-loop-b : goal.invariant-loop-b
invariant-loop-b l = (l.i ≤ length l.s) × (l.p < 65536) × (print_of l.from (decoded_at l.s l.at) ≡ print_of l.p (left l.s l.i l.h))

abbrev pub decreases-loop-b : goal.decreases-loop-b
decreases-loop-b l = weight l.s l.i l.h
