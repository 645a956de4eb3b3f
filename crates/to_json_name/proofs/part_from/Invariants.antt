use Prim.Native.Nat.{◌≤◌}
use Rattle.to_json_name.proofs.Parts.{Passing}
use Rattle.to_json_name.proofs.part_from.Given as goal

abbrev pub invariant-loop-j : goal.invariant-loop-j
invariant-loop-j l = (l.j ≤ l.k) × Passing l.v l.at l.j
