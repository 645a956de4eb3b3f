use mathlib.Core.Path.{◌≡◌}
use mathlib.Core.List.{[]}
use Prim.Native.Nat.{◌-◌, ◌≤◌}
use lib.ListN.{length, drop, get_or}
use Rattle.text.specs.Bytes.{parts}
use Rattle.json_index.proofs.nth_name.Given as goal

abbrev pub invariant-loop : goal.invariant-loop
invariant-loop l = (l.a ≤ length l.names) × (l.counter ≤ l.k) × (get_or (parts 44 l.names) l.k [] ≡ get_or (parts 44 (drop l.a l.names)) (l.k - l.counter) [])
