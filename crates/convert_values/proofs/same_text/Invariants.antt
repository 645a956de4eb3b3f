use Prim.Native.Nat.{◌-◌}
use lib.ListN.{length}
use Rattle.convert_values.proofs.Texts.{Comparing}
use Rattle.convert_values.proofs.same_text.Given as goal

abbrev pub invariant-loop-c : goal.invariant-loop-c
invariant-loop-c l = Comparing l.a l.b l.i l.j

abbrev pub decreases-loop-c : goal.decreases-loop-c
decreases-loop-c l = length l.a - l.i
