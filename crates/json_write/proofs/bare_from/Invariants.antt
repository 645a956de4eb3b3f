use lib.ListN.{drop}
use Rattle.text.specs.Reader.{taken}
use Rattle.output.specs.Put.{Rest}
use Rattle.json_write.specs.Pieces.{bare}
use Rattle.json_write.proofs.bare_from.Given as goal

abbrev pub invariant-loop-i : goal.invariant-loop-i
invariant-loop-i l = Rest l.initial.out (taken bare (drop l.at l.s)) (taken bare (drop l.i l.s)) l.k l.out
