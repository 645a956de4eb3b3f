use mathlib.Core.Path.{◌≡◌}
use Prim.Native.Nat.{◌-◌, ◌≤◌}
use lib.ListN.{length}
use Rattle.text.specs.Choice.{is_some}
use Rattle.json_strings.specs.Decoded.{decoded_at}
use Rattle.json_strings.proofs.is_paired.Given as goal

abbrev pub invariant-loop-b : goal.invariant-loop-b
invariant-loop-b l = (l.i ≤ length l.s) × (is_some (decoded_at l.s l.at) ≡ is_some (decoded_at l.s l.i))

abbrev pub decreases-loop-b : goal.decreases-loop-b
decreases-loop-b l = length l.s - l.i
