use mathlib.Core.Path.{◌≡◌}
use Prim.Native.Nat.{◌≤◌, ◌-◌}
use lib.ListN.{length}
use Rattle.to_card_kept_entry.proofs.strings.Values.{Going}
use Rattle.to_card_kept_entry.proofs.strings.put_elements.Given as goal

abbrev pub invariant-loop-added : goal.invariant-loop-added
invariant-loop-added l = (l.i ≤ length l.s) × (l.k ≤ length l.b) × (length l.b ≡ length l.initial.b) × (length l.t ≡ length l.initial.t) × (l.n ≤ l.k) × Going l.initial.b l.n l.initial.t l.m l.a l.e l.s l.at l.i l.k l.rows l.b l.t

abbrev pub decreases-loop-added : goal.decreases-loop-added
decreases-loop-added l = length l.s - l.i
