use mathlib.Core.Path.{◌≡◌}
use mathlib.Core.Option.{some}
use Rattle.text.specs.Bytes.{Bytes}
use Prim.Native.Nat.{◌≤◌}
use lib.ListN.{length}
use Rattle.output.specs.Put.{Rest}
use Rattle.json_strings.specs.Decoded.{text_at, left, weight}
use Rattle.json_strings.proofs.decode_into.Given as goal

abbrev pub invariant-loop-b : goal.invariant-loop-b
invariant-loop-b l = (l.i ≤ length l.s) × ((todo : Bytes) × (left l.s l.i l.h ≡ some todo) × Rest l.initial.out (text_at l.s l.at) todo l.k l.out)

abbrev pub decreases-loop-b : goal.decreases-loop-b
decreases-loop-b l = weight l.s l.i l.h
