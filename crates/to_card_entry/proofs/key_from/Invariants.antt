use mathlib.Core.Path.{◌≡◌}
use Prim.Native.Nat.{◌≤◌}
use lib.ListN.{length}
use Rattle.json_strings.specs.Decoded.{decoded_at, left, weight}
use Rattle.to_card_entry.specs.Rows.{key_of, key_from}
use Rattle.to_card_entry.proofs.key_from.Given as goal

abbrev pub invariant-loop-b : goal.invariant-loop-b
invariant-loop-b l = (l.i ≤ length l.s) × (l.k ≤ 255) × (key_of (decoded_at l.s l.at) ≡ key_from l.k (left l.s l.i l.h))

abbrev pub decreases-loop-b : goal.decreases-loop-b
decreases-loop-b l = weight l.s l.i l.h
