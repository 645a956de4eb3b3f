use Prim.Native.Nat.{◌-◌}
use lib.ListN.{length}
use Rattle.json_strings.specs.Bare.{Copied}
use Rattle.json_strings.proofs.copy_from.Given as goal

abbrev pub invariant-loop-out : goal.invariant-loop-out
invariant-loop-out l = Copied l.s l.at 0 l.initial.out l.n l.out

abbrev pub decreases-loop-out : goal.decreases-loop-out
decreases-loop-out l = length l.initial.out - l.n
