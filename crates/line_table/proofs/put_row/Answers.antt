use mathlib.Core.Path.{refl}
use native.Mathlib.Omega.{arith}
use lib.ListN.{length-set}
use Rattle.line_table.specs.Table.{stored}
use Rattle.line_table.proofs.put_row.Goals as goal

pub bounds-t-k-2 : goal.bounds-t-k-2
bounds-t-k-2 c = simp length-set (omega (arith, c.requires))

pub bounds-t-k-3 : goal.bounds-t-k-3
bounds-t-k-3 c = simp length-set (omega (arith, c.requires))

pub bounds-t-k-4 : goal.bounds-t-k-4
bounds-t-k-4 c = simp length-set (omega (arith, c.requires))

pub returns : goal.returns
unfolding stored
returns c = (refl, refl)
