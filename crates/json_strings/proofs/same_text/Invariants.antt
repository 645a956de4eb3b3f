use mathlib.Core.Path.{◌≡◌}
use Prim.Native.Nat.{◌≤◌}
use lib.ListN.{length}
use Rattle.json_strings.specs.Decoded.{decoded_at, left, weight, agree}
use Rattle.json_strings.proofs.same_text.Given as goal

abbrev pub invariant-loop-x : goal.invariant-loop-x
invariant-loop-x l = (l.i ≤ length l.s) × (l.j ≤ length l.s) × (agree (decoded_at l.s l.a) (decoded_at l.s l.b) ≡ agree (left l.s l.i l.g) (left l.s l.j l.h))

abbrev pub decreases-loop-x : goal.decreases-loop-x
decreases-loop-x l = weight l.s l.i l.g
