use mathlib.Core.Path.{◌≡◌}
use Prim.Native.Nat.{◌+◌, ◌-◌, ◌≤◌}
use Rattle.json_index.specs.Index.{Together, Skims}
use Rattle.json_index.proofs.alike.Given as goal

abbrev pub invariant-loop-k : goal.invariant-loop-k
invariant-loop-k l = (l.at ≤ l.i) × (l.k ≡ l.a + (l.i - l.at)) × Together l.s l.at l.names l.a l.i l.k × Skims l.s l.at l.i
