-- Each time round: i ≤ length s, and what is written followed by `squeezed` of s from i on is `squeezed` of s (`Rest`). A turn copies the run that
-- stands as it is written (`ran`), then writes the piece after it (`wrote`, by `turn_on`). length s - i falls: a piece takes a byte (`turn-less`).
-- Where s ends, or no piece can be read, nothing is left to write (`turn_end`, `turn-bad`). `compacts` makes the tree's compact text of all this.
use Prim.Native.Nat.{◌-◌, ◌≤◌}
use lib.ListN.{length, drop}
use Rattle.output.specs.Put.{Rest}
use Rattle.json_compact.specs.Squeezed.{squeezed}
use Rattle.json_compact.proofs.put_compact.Given as goal

abbrev pub invariant-loop-m : goal.invariant-loop-m
invariant-loop-m l = (l.i ≤ length l.s) × Rest l.initial.out (squeezed l.s) (squeezed (drop l.i l.s)) l.at l.out

abbrev pub decreases-loop-m : goal.decreases-loop-m
decreases-loop-m l = length l.s - l.i
