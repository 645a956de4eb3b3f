use lib.ListN.{length}
use Rattle.json_walk.proofs.Laws.{ahead, InText}
use Rattle.json_has.proofs.Laws.{Seeking}
use Rattle.json_has.proofs.has_member.Given as goal

abbrev pub invariant-loop-m : goal.invariant-loop-m
invariant-loop-m l = InText (length l.s) l.m × Seeking l.depth l.s l.at l.name l.m

abbrev pub decreases-loop-m : goal.decreases-loop-m
decreases-loop-m l = ahead (length l.s) l.m
