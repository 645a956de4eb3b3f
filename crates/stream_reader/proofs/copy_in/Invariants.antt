use Rattle.stream_reader.specs.Machine.{store_all}
use lib.ListN.{length, drop}
use Prim.Native.Nat.{◌+◌, ◌-◌, ◌≤◌}
use mathlib.Core.Path.{◌≡◌}
use Rattle.stream_reader.proofs.copy_in.Given as goal

abbrev pub invariant-loop-j : goal.invariant-loop-j
invariant-loop-j l = (l.j ≤ l.n) × (length l.card ≡ length l.initial.card) × (store_all (l.at + l.j) l.card (drop l.j l.src) ≡ store_all l.at l.initial.card l.src)
