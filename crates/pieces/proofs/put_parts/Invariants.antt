use Rattle.std.proofs.Common.{◌-◌}
use Rattle.output.specs.Put.{Rest}
use Rattle.pieces.specs.Given.{written_parts}
use Rattle.pieces.proofs.Writing.{left_from}
use Rattle.pieces.proofs.put_parts.Given as goal

abbrev pub invariant-loop-k : goal.invariant-loop-k
invariant-loop-k l =
    Rest l.fn.out (written_parts l.bytes l.starts l.n l.writer) (left_from l.bytes l.starts l.writer l.k (l.n - l.k)) l.at l.out
