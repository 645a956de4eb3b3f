use Prim.Native.Nat.{◌-◌}
use Rattle.to_card_order.proofs.Apart.{FindingTo}
use Rattle.to_card_order.proofs.is_listed.Given as goal

abbrev pub invariant-loop-i : goal.invariant-loop-i
invariant-loop-i l = FindingTo l.s l.at l.kind l.value l.i l.found
