use Prim.Native.Nat.{◌≤◌}
use lib.ListN.{length}
use Rattle.json_walk.specs.declared.Element.TheVariants.{End}
use native.Mathlib.Omega.{arith}
use Rattle.text.proofs.Places.{turn-as}
use Rattle.json_walk.proofs.Marks.{closes_here, stop-in}
use Rattle.json_walk.proofs.Steps.{element-next, element-past, element-last}
use Rattle.json_walk.proofs.next_element.Goals as goal

pub returns-then-at-s : goal.returns-then-at-s
returns-then-at-s c =
    let a = c.args in
    record { element_in = ((λ l. absurd (omega (arith, c.if-at-s.true))), omega arith); next_element_of = element-past a.s.now a.at c.if-at-s.true (End (length a.s.now)) }

pub skip_space-requires : goal.skip_space-requires
skip_space-requires c = (turn-as c.separator.ensures c.in-Continue.is).within.1

pub returns-in-Continue : goal.returns-in-Continue
returns-in-Continue c =
    let p = c.skip_space.ensures in
    let g = turn-as c.separator.ensures c.in-Continue.is in
    record { element_in = (omega (arith, g.within.0, p.from), p.to); next_element_of = element-next c.args.s.now c.args.at _ _ g p }

pub returns-in-Break : goal.returns-in-Break
returns-in-Break c =
    let a = c.args in
    let g = turn-as c.separator.ensures c.in-Break.is in
    let l : a.at ≤ length a.s.now = omega (arith, c.if-at-s.false) in
    record { element_in = stop-in a.s.now a.at 93 _ _ g c.place.ensures; next_element_of = element-last a.s.now a.at _ l (closes_here a.s.now a.at 93 _ _ g c.place.ensures) }
