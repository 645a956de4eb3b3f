use Prim.Native.Nat.{◌-◌}
use lib.ListN.{length}
use Rattle.convert_values.proofs.Noting.{Printing}
use Rattle.convert_values.proofs.print_text.Given as goal

abbrev pub invariant-loop-c : goal.invariant-loop-c
invariant-loop-c l = Printing l.u l.p l.i

abbrev pub decreases-loop-c : goal.decreases-loop-c
decreases-loop-c l = length l.u - l.i
