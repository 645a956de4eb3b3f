use mathlib.Core.Path.{◌≡◌}
use Prim.Native.Nat.{◌≤◌}
use lib.ListN.{length, take}
use Rattle.text.specs.Decimal.{decimal}
use Rattle.to_json_keys.proofs.spelled_number.Given as goal

abbrev pub invariant-loop-i : goal.invariant-loop-i
invariant-loop-i l = (l.i ≤ length l.d) × (1 ≤ l.n) × (l.n ≤ 1029) × (decimal l.n ≡ take l.i l.d)
