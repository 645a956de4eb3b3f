use Rattle.line_pen.specs.Pen.{Stands}
use Rattle.line_pen.proofs.before_fold.Given as goal

abbrev pub invariant-loop-n : goal.invariant-loop-n
invariant-loop-n l = Stands l.column l.s l.n
