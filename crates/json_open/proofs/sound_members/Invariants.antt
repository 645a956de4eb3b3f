-- Each time round: k names are noted, four bytes of s at least for each, so there is a row for the next one; the verdict on the members from i on,
-- after those names, is the verdict on all (`ToMembers`); and each slot has its first value or still waits for it (`Todo`, of json_index). A turn
-- notes a name, its slot, and reads the value into the rows that are left (`members-on`, `member-on`). length s - i falls. A name that is bad or
-- unsound (`name-bad`, `name-rest`), or such a value (`members-bad`, `members-rest`), ends it, and then no index is promised; at the brace both are
-- whole (`members-last`, `member-last`).
use Prim.Native.Nat.{◌+◌, ◌*◌, ◌-◌, ◌≤◌}
use mathlib.Core.Path.{◌≡◌}
use lib.ListN.{length}
use Rattle.json_sound.proofs.Walk.{ToMembers}
use Rattle.json_index.proofs.Laws.{Todo}
use Rattle.json_open.proofs.sound_members.Given as goal

abbrev pub invariant-loop-v : goal.invariant-loop-v
invariant-loop-v l = (l.at + 4 * l.k ≤ l.i) × (l.i ≤ length l.s) × (length l.places ≡ length l.initial.places) × ToMembers l.depth l.s l.at l.i l.places l.prints l.k × (length l.prints ≡ length l.initial.prints)
    × (length l.slots ≡ length l.initial.slots) × Todo l.depth l.s l.from l.names l.slots l.i

abbrev pub decreases-loop-v : goal.decreases-loop-v
decreases-loop-v l = length l.s - l.i
