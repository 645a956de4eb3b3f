use Prim.Native.Nat.{◌-◌}
use mathlib.Core.Path.{◌≡◌}
use lib.ListN.{length, drop}
use Rattle.text.specs.Bytes.{all}
use Rattle.line_class.proofs.Agree.{by_table}
use Rattle.line_class.proofs.all_of.Given as goal

abbrev pub invariant-loop-b : goal.invariant-loop-b
invariant-loop-b l = all (by_table l.table l.mask) (drop l.b-index l.s) ≡ all (by_table l.table l.mask) l.s
