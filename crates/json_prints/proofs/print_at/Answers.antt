use native.Mathlib.Omega.{arith}
use mathlib.Core.Path.{sym, ap}
use Rattle.json_strings.proofs.Laws.{decoded-past}
use Rattle.json_prints.specs.Prints.{print_of}
use Rattle.json_prints.proofs.print_at.Goals as goal

pub returns-then-at-s : goal.returns-then-at-s
returns-then-at-s c = record { value = sym (ap (print_of 0) (decoded-past c.args.s.now c.args.at c.if-at-s.true)); upper_bound = omega arith }
