use Prim.Native.Nat.{◌≤◌}
use mathlib.Core.Path.{◌≡◌}
use mathlib.Core.Bool.{true}
use Rattle.json_write.specs.Pieces.{BareFor}
use Rattle.json_write.proofs.are_bare.Given as goal

abbrev pub invariant-loop-k : goal.invariant-loop-k
invariant-loop-k l = (l.k ≤ 16) × (l.all ≡ true → BareFor l.s l.at l.k)
