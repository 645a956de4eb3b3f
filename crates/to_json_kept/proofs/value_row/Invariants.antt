use Prim.Native.Nat.{◌-◌, ◌≤◌}
use Rattle.to_json_kept.proofs.Whole.{Untyped}
use Rattle.to_json_kept.proofs.value_row.Given as goal

abbrev pub invariant-loop-k : goal.invariant-loop-k
invariant-loop-k l = (l.k ≤ l.n) × Untyped l.s l.t l.k

abbrev pub decreases-loop-k : goal.decreases-loop-k
decreases-loop-k l = l.n - l.k
