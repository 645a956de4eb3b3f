use mathlib.Core.Bool.{false}
use Prim.Native.Nat.{◌≤◌}
use Rattle.json_prints.specs.Prints.{Absent}
use Rattle.json_prints.proofs.print_in.Given as goal

abbrev pub invariant-loop-k : goal.invariant-loop-k
invariant-loop-k l = (l.from ≤ l.k) × (l.k ≤ l.to) × Absent l.prints l.p l.from l.k false
