use Rattle.std.proofs.Common.{length}
use Rattle.json_walk.proofs.Laws.{ahead_of, ArrayInText}
use Rattle.json_forms.proofs.say_elements.Given as goal

abbrev pub invariant-loop-m : goal.invariant-loop-m
invariant-loop-m g l = ArrayInText (length l.s) l.m

abbrev pub decreases-loop-m : goal.decreases-loop-m
decreases-loop-m g l = ahead_of (length l.s) l.m
