use mathlib.Core.Path.{refl}
use native.Mathlib.Omega.{arith}
use lib.ListN.{length-set}
use Rattle.to_card_kept_entry.specs.entry.Entry.{headed_at}
use Rattle.to_card_kept_entry.proofs.entry.put_head.Goals as goal

pub bounds-t-1 : goal.bounds-t-1
bounds-t-1 c = simp length-set (omega (arith, c.requires))

pub bounds-t-2 : goal.bounds-t-2
bounds-t-2 c = simp length-set (omega (arith, c.requires))

pub bounds-t-3 : goal.bounds-t-3
bounds-t-3 c = simp length-set (omega (arith, c.requires))

pub bounds-t-4 : goal.bounds-t-4
bounds-t-4 c = simp length-set (omega (arith, c.requires))

pub bounds-t-5 : goal.bounds-t-5
bounds-t-5 c = simp length-set (omega (arith, c.requires))

pub bounds-t-6 : goal.bounds-t-6
bounds-t-6 c = simp length-set (omega (arith, c.requires))

pub returns : goal.returns
unfolding headed_at
returns c = refl
