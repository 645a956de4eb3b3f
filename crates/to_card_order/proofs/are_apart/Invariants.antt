use Prim.Native.Nat.{◌-◌}
use Rattle.to_card_order.proofs.Apart.{PartingTo}
use Rattle.to_card_order.proofs.are_apart.Given as goal

abbrev pub invariant-loop-i : goal.invariant-loop-i
invariant-loop-i l = PartingTo l.s l.at l.one l.other l.i l.ok
