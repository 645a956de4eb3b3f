use Prim.Native.Nat.{◌+◌, ◌-◌, ◌≤◌}
use mathlib.Core.Path.{◌≡◌}
use lib.ListN.{length, drop}
use Rattle.text.specs.Utf8.{tails, run}
use Rattle.utf8.proofs.tails_end.Given as goal

abbrev pub invariant-loop-i : goal.invariant-loop-i
invariant-loop-i l = (l.i ≤ length l.s) × (run (tails l.n) (drop l.at l.s) ≡ run (tails (l.at + l.n - l.i)) (drop l.i l.s))
