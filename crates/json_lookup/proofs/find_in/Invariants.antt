use lib.ListN.{length}
use Rattle.json_walk.proofs.Laws.{ahead, InText}
use Rattle.json_lookup.proofs.Laws.{Seeking}
use Rattle.json_lookup.proofs.find_in.Given as goal

abbrev pub invariant-loop-m : goal.invariant-loop-m
invariant-loop-m l = InText (length l.s) l.m × Seeking l.s l.name l.m

abbrev pub decreases-loop-m : goal.decreases-loop-m
decreases-loop-m l = ahead (length l.s) l.m
