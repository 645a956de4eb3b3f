use mathlib.Core.Bool.{false}
use Prim.Native.Nat.{◌≤◌, ◌-◌}
use lib.ListN.{length, take}
use Rattle.line.specs.Text.{write_text}
use Rattle.line_pen.specs.Pen.{Pens}
use Rattle.to_card_members.proofs.pen_text.Given as goal

abbrev pub invariant-loop-b : goal.invariant-loop-b
invariant-loop-b l = (l.b-index ≤ length l.s) × Pens l.initial.out l.column (write_text false (take l.b-index l.s)) (record { bytes = l.at; column = l.k }) l.out
