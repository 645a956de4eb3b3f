use mathlib.Core.Path.{◌≡◌}
use Prim.Native.Nat.{◌+◌, ◌-◌, ◌≤◌}
use lib.ListN.{length, drop}
use Rattle.text.specs.Bytes.{parts}
use Rattle.convert_types.specs.Marks.{marks}
use Rattle.convert_types.proofs.mark_value.Given as goal

abbrev pub invariant-loop-n : goal.invariant-loop-n
invariant-loop-n l = (l.i ≤ length l.v) × (length l.row ≡ length l.initial.row) × (marks l.n (parts 44 (drop l.i l.v)) l.row ≡ marks l.n (parts 44 l.v) l.initial.row)

abbrev pub decreases-loop-n : goal.decreases-loop-n
decreases-loop-n l = length l.v + 1 - l.i
