use mathlib.Core.Path.{◌≡◌}
use mathlib.Core.Bool.{◌||◌}
use Prim.Native.Nat.{◌-◌}
use lib.ListN.{length, drop}
use Rattle.text.specs.Bytes.{any}
use Rattle.line.specs.Class.{is_control}
use Rattle.line_class.proofs.has_control.Given as goal

abbrev pub invariant-loop-b : goal.invariant-loop-b
invariant-loop-b l = any is_control l.line ≡ l.found || any is_control (drop l.b-index l.line)
