-- Each time round, if members stand from `at` on: the members from i on are the last of them (`Rest`), and each slot holds the first value of its
-- name, or is 0 and the first is among those that are still to come (`Todo`). A turn notes one member and passes a comma (`todo-on`, `rest-on`); at
-- the brace both are whole (`todo-last`, `rest-last`). 0 < at ≤ i: so no place that is noted is 0. length s - i falls.
use mathlib.Core.Path.{◌≡◌}
use Prim.Native.Nat.{◌≤◌, ◌-◌}
use lib.ListN.{length}
use Rattle.json_index.proofs.Laws.{Rest, Todo}
use Rattle.json_index.proofs.index_from.Given as goal

abbrev pub invariant-loop-j : goal.invariant-loop-j
invariant-loop-j l = (l.i ≤ length l.s) × (l.at ≤ l.i) × (length l.slots ≡ length l.initial.slots) × Todo l.depth l.s l.at l.names l.slots l.i × Rest l.depth l.s l.at l.i

abbrev pub decreases-loop-j : goal.decreases-loop-j
decreases-loop-j l = length l.s - l.i
