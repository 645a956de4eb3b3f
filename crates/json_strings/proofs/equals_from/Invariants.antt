use mathlib.Core.Path.{◌≡◌}
use Prim.Native.Nat.{◌≤◌}
use lib.ListN.{length, drop}
use Rattle.json_strings.specs.Decoded.{decoded_at, left, weight, spells}
use Rattle.json_strings.proofs.equals_from.Given as goal

abbrev pub invariant-loop-b : goal.invariant-loop-b
invariant-loop-b l = (l.i ≤ length l.s) × (l.k ≤ length l.bytes) × (spells (decoded_at l.s l.at) (drop l.from l.bytes) ≡ spells (left l.s l.i l.h) (drop l.k l.bytes))

abbrev pub decreases-loop-b : goal.decreases-loop-b
decreases-loop-b l = weight l.s l.i l.h
