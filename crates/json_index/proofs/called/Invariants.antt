use mathlib.Core.Path.{◌≡◌}
use Prim.Native.Nat.{◌+◌, ◌-◌, ◌≤◌}
use lib.ListN.{length, drop}
use Rattle.text.specs.Bytes.{parts}
use Rattle.json_strings.specs.Decoded.{decoded_at}
use Rattle.json_index.specs.Index.{placed}
use Rattle.json_index.proofs.called.Given as goal

abbrev pub invariant-loop-p : goal.invariant-loop-p
invariant-loop-p l = (l.a ≤ length l.names) × (l.k ≤ l.a) × (placed (decoded_at l.s l.at) (parts 44 l.names) ≡ l.k + placed (decoded_at l.s l.at) (parts 44 (drop l.a l.names)))

abbrev pub decreases-loop-p : goal.decreases-loop-p
decreases-loop-p l = length l.names - l.a
