-- Each time round: the first i bytes of s are at the start of out, and nothing else of it is changed (`Fills`). A block takes i to i + 16
-- (`block_more`); length s - i falls. The last block ends where s does: it writes again bytes that are already there, so it comes to all of s
-- (`block_last`).
use Prim.Native.Nat.{◌-◌, ◌≤◌}
use lib.ListN.{length, take}
use Rattle.line_pen.specs.Pen.{Fills}
use Rattle.line_pen.proofs.copy_blocks.Given as goal

abbrev pub invariant-loop-i : goal.invariant-loop-i
invariant-loop-i l = (l.i ≤ length l.s) × Fills l.initial.out (take l.i l.s) l.i l.out

abbrev pub decreases-loop-i : goal.decreases-loop-i
decreases-loop-i l = length l.s - l.i
