use Prim.Native.Nat.{◌-◌, ◌≤◌}
use lib.ListN.{length}
use Rattle.to_card_kept_entry.proofs.writing.Bytes.{StandSofar}
use Rattle.to_card_kept_entry.proofs.writing.all_stand.Given as goal

abbrev pub invariant-loop-i : goal.invariant-loop-i
invariant-loop-i l = (l.i ≤ length l.s) × StandSofar l.style l.s l.ok l.i
