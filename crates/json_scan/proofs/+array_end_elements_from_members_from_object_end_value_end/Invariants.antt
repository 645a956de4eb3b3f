use Prim.Native.Nat.{◌+◌, ◌-◌}
use lib.ListN.{length}
use Rattle.text.proofs.Runs.{Run}
use Rattle.json_text.specs.Syntax.{item, pair, value}
use Rattle.json_scan.proofs.+array_end_elements_from_members_from_object_end_value_end.Given as goal

abbrev pub decreases-array_end : goal.decreases-array_end
decreases-array_end l = l.depth + l.depth + l.depth + 2

abbrev pub decreases-elements_from : goal.decreases-elements_from
decreases-elements_from l = l.depth + l.depth + l.depth + 1

abbrev pub decreases-members_from : goal.decreases-members_from
decreases-members_from l = l.depth + l.depth + l.depth + 1

abbrev pub decreases-object_end : goal.decreases-object_end
decreases-object_end l = l.depth + l.depth + l.depth + 2

abbrev pub decreases-value_end : goal.decreases-value_end
decreases-value_end l = l.depth + l.depth + l.depth

abbrev pub invariant-elements_from-loop-e : goal.invariant-elements_from-loop-e
invariant-elements_from-loop-e l = Run (item (value l.depth)) l.s l.at l.i

abbrev pub decreases-elements_from-loop-e : goal.decreases-elements_from-loop-e
decreases-elements_from-loop-e l = length l.s - l.i

abbrev pub invariant-members_from-loop-v : goal.invariant-members_from-loop-v
invariant-members_from-loop-v l = Run (pair (value l.depth)) l.s l.at l.i

abbrev pub decreases-members_from-loop-v : goal.decreases-members_from-loop-v
decreases-members_from-loop-v l = length l.s - l.i
