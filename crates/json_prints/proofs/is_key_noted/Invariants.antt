use mathlib.Core.Option.{some}
use Prim.Native.Nat.{◌≤◌, ◌-◌}
use Rattle.json_prints.specs.Prints.{Clear}
use Rattle.json_prints.proofs.is_key_noted.Given as goal

abbrev pub invariant-loop-k : goal.invariant-loop-k
invariant-loop-k l = (l.k ≤ l.n) × Clear l.s (some l.key) l.places l.prints 0 l.k

abbrev pub decreases-loop-k : goal.decreases-loop-k
decreases-loop-k l = l.n - l.k
