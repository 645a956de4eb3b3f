use Prim.Native.Nat.{◌≤◌}
use lib.ListN.{length}
use Rattle.class_member.specs.Member.{Room}
use Rattle.from_card_garbled.specs.Garbled.{OfLines}
use Rattle.from_card_classes.specs.Pass.{Ready, Through}
use Rattle.from_card_classes.proofs.class_lines.Given as goal

abbrev pub invariant-loop-k : goal.invariant-loop-k
invariant-loop-k l =
    Ready l.bytes l.codes l.ids l.prints l.k l.p × (264 ≤ length l.table) × Room l.bytes l.text × OfLines l.bytes l.starts l.n (λ raw. Through l.bytes l.codes l.ids raw l.k l.p)
