use Prim.Native.Nat.{◌≤◌, ◌-◌}
use Rattle.json_strings.specs.Decoded.{decoded_at}
use Rattle.json_prints.specs.Prints.{Clear}
use Rattle.json_prints.proofs.is_noted_wide.Given as goal

abbrev pub invariant-loop-k : goal.invariant-loop-k
invariant-loop-k l = (l.k ≤ l.count) × Clear l.s (decoded_at l.s l.at) l.places l.prints 0 l.k

abbrev pub decreases-loop-k : goal.decreases-loop-k
decreases-loop-k l = l.count - l.k
