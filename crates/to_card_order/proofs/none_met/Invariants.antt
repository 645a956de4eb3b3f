use Prim.Native.Nat.{◌≤◌, ◌-◌}
use lib.ListN.{length}
use Rattle.to_card_order.proofs.Noted.{Parting}
use Rattle.to_card_order.proofs.none_met.Given as goal

abbrev pub invariant-loop-part : goal.invariant-loop-part
invariant-loop-part l = (l.i ≤ length l.s) × Parting l.s l.at l.kind l.places l.prints l.count l.i l.ok

abbrev pub decreases-loop-part : goal.decreases-loop-part
decreases-loop-part l = length l.s - l.i
