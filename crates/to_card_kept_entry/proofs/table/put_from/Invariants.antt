use mathlib.Core.Path.{◌≡◌}
use Prim.Native.Nat.{◌≤◌, ◌-◌}
use lib.ListN.{length}
use Rattle.to_card_kept_entry.proofs.table.Members.{Going}
use Rattle.to_card_kept_entry.proofs.table.put_from.Given as goal

abbrev pub invariant-loop-g : goal.invariant-loop-g
invariant-loop-g l = (l.i ≤ length l.s) × (l.f.end ≤ length l.b) × (length l.b ≡ length l.initial.b) × (length l.t ≡ length l.initial.t) × (l.n ≤ l.f.end) × (l.f.rows ≤ 64) × (l.f.count ≤ l.i) × Going l.initial.b l.n l.s l.at l.i l.f l.b l.t

abbrev pub decreases-loop-g : goal.decreases-loop-g
decreases-loop-g l = length l.s - l.i
