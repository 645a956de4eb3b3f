-- Each time round, if members stand from `at` on: those before i are entries of the map, and their lines are written, counted and judged; those
-- from i on are still to come (`Going`). lines ≤ i ≤ length s: so the count does not wrap. A turn writes one entry and passes its comma
-- (`going_on`); length s - i falls. An entry that the map does not take makes the whole 12 (`puts-wrong`); at the brace all are written
-- (`puts-all`).
use mathlib.Core.Path.{◌≡◌}
use Prim.Native.Nat.{◌≤◌, ◌-◌}
use lib.ListN.{length}
use Rattle.to_card_map.proofs.Laws.{Going}
use Rattle.to_card_map.proofs.put_from.Given as goal

abbrev pub invariant-loop-entry : goal.invariant-loop-entry
invariant-loop-entry l = (l.i ≤ length l.s) × (l.n ≤ length l.out) × (length l.out ≡ length l.initial.out) × (l.lines ≤ l.i) × Going l.s l.at l.names l.kinds l.count l.heads l.form l.initial.out l.i l.n l.lines l.ok l.out

abbrev pub decreases-loop-entry : goal.decreases-loop-entry
decreases-loop-entry l = length l.s - l.i
