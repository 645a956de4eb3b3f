use Prim.Native.Nat.{◌-◌, ◌≤◌}
use lib.ListN.{length, drop}
use Rattle.text.specs.Bytes.{flat}
use Rattle.output.specs.Put.{Rest}
use Rattle.line.specs.Physical.{physical}
use Rattle.line.specs.Unfold.{unfold'}
use Rattle.line_unfold.specs.Table.{marks}
use Rattle.line_unfold.proofs.Turns.{bytes_left, marks_left}
use Rattle.line_unfold.proofs.unfold.Given as goal

abbrev pub invariant-loop-i : goal.invariant-loop-i
invariant-loop-i l =
    (l.i ≤ length l.s)
    × (l.n ≤ l.i)
    × (l.k ≤ l.most)
    × Rest l.initial.out (flat (unfold' (physical l.s))) (bytes_left l.k (physical (drop l.i l.s))) l.n l.out
    × Rest l.initial.table (marks 0 (unfold' (physical l.s))) (marks_left l.k l.n (physical (drop l.i l.s))) l.k l.table

abbrev pub decreases-loop-i : goal.decreases-loop-i
decreases-loop-i l = length l.s - l.i
