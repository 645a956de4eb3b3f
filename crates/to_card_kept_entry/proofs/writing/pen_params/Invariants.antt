use Prim.Native.Nat.{◌-◌, ◌≤◌}
use Rattle.to_card_kept_entry.proofs.writing.Rows.{Far}
use Rattle.to_card_kept_entry.proofs.writing.pen_params.Given as goal

abbrev pub invariant-loop-i : goal.invariant-loop-i
invariant-loop-i l = (l.i ≤ l.n) × Far l.b l.t l.initial.out l.column l.at l.k l.ok l.quoted l.i l.out
