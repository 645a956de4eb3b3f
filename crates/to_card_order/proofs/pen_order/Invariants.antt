use Prim.Native.Nat.{◌≤◌, ◌-◌}
use lib.ListN.{length}
use Rattle.to_card_order.proofs.Places.{Ordering}
use Rattle.to_card_order.proofs.pen_order.Given as goal

abbrev pub invariant-loop-place : goal.invariant-loop-place
invariant-loop-place l = (l.place-index ≤ length l.order) × Ordering l.s l.at l.marks l.style l.mark l.order l.initial.out l.column l.n l.c l.b l.ok l.place-index l.out
