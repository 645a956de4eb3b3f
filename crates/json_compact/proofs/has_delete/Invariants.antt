use Prim.Native.Nat.{◌≤◌}
use Rattle.json_compact.specs.Stands.{Deletes}
use Rattle.json_compact.proofs.has_delete.Given as goal

abbrev pub invariant-loop-k : goal.invariant-loop-k
invariant-loop-k l = (l.from ≤ l.k) × (l.k ≤ l.to) × Deletes l.s l.from l.k l.found
