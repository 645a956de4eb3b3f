use Prim.Native.Nat.{◌-◌, ◌+◌}
use lib.ListN.{length}
use Rattle.line_text.specs.Read.{plain_text}
use Rattle.convert_values.proofs.Texts.{Seeking}
use Rattle.convert_values.proofs.is_among.Given as goal

abbrev pub invariant-loop-i : goal.invariant-loop-i
invariant-loop-i l = Seeking (plain_text l.u) l.o l.i

abbrev pub decreases-loop-i : goal.decreases-loop-i
decreases-loop-i l = (length l.o + 1) - l.i
