-- Each time round: the groups before the i-th are noted, group j in the rows from ends[j] to ends[j + 1], and ends[i] is n (`Filled`); no slice has
-- changed its length. A turn lends the rows from n on to note_group and notes where they end (`filled_on`); 8 - i falls. A name that does not fit
-- ends it with no rows at all, of which nothing is promised. After the eighth group all is indexed (`indexed`).
use mathlib.Core.Path.{◌≡◌}
use Prim.Native.Nat.{◌-◌, ◌≤◌}
use lib.ListN.{length}
use Rattle.to_card_kept_names.proofs.Groups.{Filled}
use Rattle.to_card_kept_names.proofs.note_groups.Given as goal

abbrev pub invariant-loop-i : goal.invariant-loop-i
invariant-loop-i l =
    (length l.places ≡ length l.prints) × (l.n ≤ length l.places) × (length l.ends ≡ 9) × (l.i ≤ 8) × (length l.places ≡ length l.initial.places) × (length l.prints ≡ length l.initial.prints)
    × Filled l.s l.slots l.places l.prints l.ends l.i l.n

abbrev pub decreases-loop-i : goal.decreases-loop-i
decreases-loop-i l = 8 - l.i
