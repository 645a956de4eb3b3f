-- Each time round: the names noted in the first k rows, and then those of the members that m tells of, are all names of the value at `at`
-- (`Noting`). A turn notes the name of m's member in row k and passes over its value (`noting-on`); what is ahead of m in the text falls
-- (`less-ahead`). Where no member is left, or the value is no object, the k rows are all its names (`noting-last`). None promises nothing.
use mathlib.Core.Path.{◌≡◌}
use Prim.Native.Nat.{◌≤◌}
use lib.ListN.{length}
use Rattle.json_walk.proofs.Laws.{ahead, InText}
use Rattle.to_card_kept_names.proofs.Noting.{Noting}
use Rattle.to_card_kept_names.proofs.note_names.Given as goal

abbrev pub invariant-loop-m : goal.invariant-loop-m
invariant-loop-m l =
    InText (length l.s) l.m × (length l.places ≡ length l.prints) × (length l.places ≡ length l.initial.places) × (length l.prints ≡ length l.initial.prints) × (l.k ≤ length l.places) × Noting l.depth l.s l.at l.places l.prints l.k l.m

abbrev pub decreases-loop-m : goal.decreases-loop-m
decreases-loop-m l = ahead (length l.s) l.m
