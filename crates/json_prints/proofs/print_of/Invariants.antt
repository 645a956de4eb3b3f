use Prim.Native.Nat.{◌<◌}
use mathlib.Core.Path.{◌≡◌}
use lib.ListN.{drop}
use Rattle.json_prints.specs.Prints.{printed}
use Rattle.json_prints.proofs.print_of.Given as goal

abbrev pub invariant-loop-b : goal.invariant-loop-b
invariant-loop-b l = (l.p < 65536) × (printed l.p (drop l.b-index l.key) ≡ printed l.from l.key)
