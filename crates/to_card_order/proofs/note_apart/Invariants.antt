-- Each time round, if components stand from `at` on: of the other kind's values before i some are gone, and `ok` says whether the one kind is apart
-- from those; the rest are the n that are noted (`Noting`). A turn notes one value more, or asks about all that are noted and begins anew
-- (`noting-on`); length s - i falls. At the bracket those that are noted are asked about too (`notes-all`). Where an element is no component,
-- nothing is promised (`notes-wrong`).
use mathlib.Core.Path.{◌≡◌}
use Prim.Native.Nat.{◌≤◌, ◌-◌}
use lib.ListN.{length}
use Rattle.to_card_order.proofs.Noted.{Noting}
use Rattle.to_card_order.proofs.note_apart.Given as goal

abbrev pub invariant-loop-part : goal.invariant-loop-part
invariant-loop-part l = (l.i ≤ length l.s) × (l.n ≤ 2304) × (length l.places ≡ length l.initial.places) × (length l.prints ≡ length l.initial.prints) × Noting l.s l.at l.one l.other l.i l.places l.prints l.n l.ok

abbrev pub decreases-loop-part : goal.decreases-loop-part
decreases-loop-part l = length l.s - l.i
