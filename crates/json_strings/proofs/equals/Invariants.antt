use mathlib.Core.Path.{◌≡◌}
use Prim.Native.Nat.{◌-◌, ◌≤◌}
use lib.ListN.{length, drop}
use Rattle.json_strings.specs.Decoded.{decoded_at, spells}
use Rattle.json_strings.proofs.equals.Given as goal

abbrev pub invariant-loop-at : goal.invariant-loop-at
invariant-loop-at l = (l.i ≤ length l.s) × (l.k ≤ length l.bytes) × (spells (decoded_at l.s l.at) l.bytes ≡ spells (decoded_at l.s l.i) (drop l.k l.bytes))

abbrev pub decreases-loop-at : goal.decreases-loop-at
decreases-loop-at l = length l.s - l.i
