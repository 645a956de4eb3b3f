-- Each time round: the first i bytes of s, folded from `column` on, are written as far as there was room, and k is the column after them (`Pens`).
-- A turn copies the bytes that stand before the next fold (`copied`), or pens one byte (`pens-then`, `one_more`). length s - i falls. There is no
-- refusal: what does not fit is not written, and the count says so.
use Prim.Native.Nat.{◌-◌, ◌≤◌}
use lib.ListN.{length, take}
use Rattle.line_pen.specs.Pen.{Pens}
use Rattle.line_pen.proofs.pen_long.Given as goal

abbrev pub invariant-loop-i : goal.invariant-loop-i
invariant-loop-i l = (l.i ≤ length l.s) × Pens l.initial.out l.column (take l.i l.s) (record { bytes = l.at; column = l.k }) l.out

abbrev pub decreases-loop-i : goal.decreases-loop-i
decreases-loop-i l = length l.s - l.i
