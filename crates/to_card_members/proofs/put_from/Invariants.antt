-- Each time round, if members stand from `at` on: what those before i come to is written, counted and judged, those from i on are still to come
-- (`Going`). A member has at most one line (`one_in`), so lines ≤ i and the count does not wrap. A turn takes one member and passes its comma
-- (`going_on`); length s - i falls. An empty name makes the whole 12 (`puts-wrong`); at the brace all are taken (`puts-all`). The buffer keeps its
-- length, which is at least that of the room.
use mathlib.Core.Path.{◌≡◌}
use Prim.Native.Nat.{◌≤◌, ◌-◌}
use lib.ListN.{length}
use Rattle.to_card_members.proofs.Loop.{Going}
use Rattle.to_card_members.proofs.put_from.Given as goal

abbrev pub invariant-loop-other : goal.invariant-loop-other
invariant-loop-other l = (l.i ≤ length l.s) × (l.n ≤ length l.out) × (length l.out ≡ length l.initial.out) × (l.lines ≤ l.i) × (length l.buffer ≡ length l.initial.buffer) × Going l.s l.at l.initial.out l.i l.n l.lines l.ok l.out

abbrev pub decreases-loop-other : goal.decreases-loop-other
decreases-loop-other l = length l.s - l.i
