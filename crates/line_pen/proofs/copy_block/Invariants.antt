-- The first j bytes of s are read, and the first k of the block are written.
use Prim.Native.Nat.{◌≤◌}
use lib.ListN.{take}
use Rattle.output.specs.Put.{Sofar}
use Rattle.line_pen.proofs.copy_block.Given as goal

abbrev pub invariant-loop-j : goal.invariant-loop-j
invariant-loop-j l = (l.j ≤ 16) × Sofar l.initial.block (take l.j l.s) l.j l.block

abbrev pub invariant-loop-k : goal.invariant-loop-k
invariant-loop-k l = (l.k ≤ 16) × Sofar l.initial.out (take l.k l.block) l.k l.out
