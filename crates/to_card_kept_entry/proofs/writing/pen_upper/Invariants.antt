use Prim.Native.Nat.{◌-◌, ◌≤◌}
use lib.ListN.{length, take}
use Rattle.text.specs.Bytes.{uppered}
use Rattle.line_pen.specs.Pen.{Pens}
use Rattle.to_card_kept_entry.proofs.writing.pen_upper.Given as goal

abbrev pub invariant-loop-i : goal.invariant-loop-i
invariant-loop-i l = (l.i ≤ length l.name) × Pens l.initial.out l.column (uppered (take l.i l.name)) (record { bytes = l.at; column = l.k }) l.out
