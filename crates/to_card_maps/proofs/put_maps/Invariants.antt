-- Each time round: the lines of the first k maps are written, counted and judged, and the maps from k on are still to come (`Going`). A turn writes
-- the map in slot k + 5 on the rest of the room (`maps-on`); 7 - k falls. Each map has at most 65537 lines, one more than the text has bytes, so
-- the count does not wrap (`lines-in`). A map that is 12 makes the whole 12 (`maps-wrong`); after the seventh all is said (`maps-all`).
use Rattle.to_card_maps.proofs.Laws.{Going}
use lib.ListN.{length}
use Prim.Native.Nat.{◌≤◌, ◌*◌, ◌-◌}
use mathlib.Core.Path.{◌≡◌}
use Rattle.to_card_maps.proofs.put_maps.Given as goal

abbrev pub invariant-loop-k : goal.invariant-loop-k
invariant-loop-k l = (l.k ≤ 7) × (l.n ≤ length l.out) × (length l.out ≡ length l.initial.out) × (l.lines ≤ 65537 * l.k) × Going l.s l.slots l.initial.out l.k l.n l.lines l.ok l.out
