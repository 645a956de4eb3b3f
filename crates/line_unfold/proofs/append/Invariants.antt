-- Each time round: what stands before `at` is followed by the first i bytes.
use Prim.Native.Nat.{◌+◌, ◌≤◌}
use mathlib.Core.Path.{◌≡◌}
use lib.ListN.{length, take}
use Rattle.line_unfold.specs.Table.{Adds}
use Rattle.line_unfold.proofs.append.Given as goal

abbrev pub invariant-loop-i : goal.invariant-loop-i
invariant-loop-i l = (l.i ≤ length l.src) × (length l.out ≡ length l.initial.out) × Adds l.initial.out l.at (take l.i l.src) (l.at + l.i) l.out
