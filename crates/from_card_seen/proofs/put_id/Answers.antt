use mathlib.Core.Path.{refl}
use native.Mathlib.Omega.{arith}
use lib.ListN.{length-set}
use Rattle.from_card_seen.specs.Ids.{with_id}
use Rattle.from_card_seen.proofs.put_id.Goals as goal

pub bounds-ids-at-2 : goal.bounds-ids-at-2
bounds-ids-at-2 c = simp length-set (omega (arith, c.requires.wide))

pub bounds-ids-at-3 : goal.bounds-ids-at-3
bounds-ids-at-3 c = simp length-set (omega (arith, c.requires.wide))

pub returns : goal.returns
unfolding with_id
returns c = (refl, refl, refl)
