use Rattle.std.proofs.Common.{length}
use Rattle.json_walk.proofs.Laws.{ahead, InText}
use Rattle.json_forms.proofs.say_members.Given as goal

abbrev pub invariant-loop-m : goal.invariant-loop-m
invariant-loop-m g l = InText (length l.s) l.m

abbrev pub decreases-loop-m : goal.decreases-loop-m
decreases-loop-m g l = ahead (length l.s) l.m
