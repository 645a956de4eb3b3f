-- Each time round: some text is penned, k is the column after it; if elements stand from `at` on, those before i are units, and it is their pieces,
-- each after a semicolon, without empty ones; `ok` and `filled` say whether a line can carry them and whether any has a byte (`Going`). A turn pens
-- one unit (`units-on`); length s - i falls. An element that is no unit makes the whole 12 (`units-wrong`); at the bracket all are penned
-- (`units-all`).
use Rattle.to_card_value.proofs.Units.{Going}
use lib.ListN.{length}
use Prim.Native.Nat.{◌≤◌, ◌-◌}
use Rattle.to_card_value.proofs.put_units_from.Given as goal

abbrev pub invariant-loop-column : goal.invariant-loop-column
invariant-loop-column l = (l.i ≤ length l.s) × Going l.s l.at l.initial.out l.column l.i l.n l.k l.ok l.filled l.out

abbrev pub decreases-loop-column : goal.decreases-loop-column
decreases-loop-column l = length l.s - l.i
