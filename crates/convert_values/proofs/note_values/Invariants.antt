use mathlib.Core.Path.{◌≡◌}
use Prim.Native.Nat.{◌+◌, ◌-◌}
use lib.ListN.{length}
use Rattle.convert_values.proofs.Noting.{Walking}
use Rattle.convert_values.proofs.note_values.Given as goal

abbrev pub invariant-loop-n : goal.invariant-loop-n
invariant-loop-n l = Walking l.o l.places l.prints l.n l.i × (length l.places ≡ length l.initial.places) × (length l.prints ≡ length l.initial.prints)

abbrev pub decreases-loop-n : goal.decreases-loop-n
decreases-loop-n l = (length l.o + 1) - l.i
