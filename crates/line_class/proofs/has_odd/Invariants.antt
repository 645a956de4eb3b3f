use mathlib.Core.Path.{◌≡◌}
use mathlib.Core.Bool.{◌||◌}
use Prim.Native.Nat.{◌-◌}
use lib.ListN.{length, drop}
use Rattle.text.specs.Bytes.{any}
use Rattle.line_class.specs.Odd.{is_odd}
use Rattle.line_class.proofs.has_odd.Given as goal

abbrev pub invariant-loop-b : goal.invariant-loop-b
invariant-loop-b l = any is_odd l.line ≡ l.found || any is_odd (drop l.b-index l.line)
