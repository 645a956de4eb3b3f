use borrow.Author.Rules.{rules}
use native.Mathlib.Omega.{arith}
use Rattle.text.proofs.Places.{turn-as}
use Rattle.json_chars.proofs.Laws.{string-on, string-stop}
use Rattle.json_chars.proofs.string_end.Goals as goal

pub loop-j-init : goal.loop-j-init
loop-j-init c = (search rules, λ r x. x)

pub near_end-from-requires : goal.near_end-from-requires
near_end-from-requires c = c.loop-j.invariant.0

pub next_character-requires : goal.next_character-requires
next_character-requires c = c.near_end-from.ensures.lower_bound.1

pub loop-j-smaller : goal.loop-j-smaller
loop-j-smaller c = let h = turn-as c.next_character.ensures c.in-Continue.is in omega (arith, h.within.0, h.within.1, c.near_end-from.ensures.lower_bound.0)

pub loop-j-preserved : goal.loop-j-preserved
loop-j-preserved c =
    let args = c.args in
    let loop = c.loop-j in
    let h = turn-as c.next_character.ensures c.in-Continue.is in (h.within.1, λ r x. loop.invariant.1 r (c.near_end-from.ensures.to_end r (string-on args.s.now c.near_end-from.result c.in-Continue.j h r x)))

pub returns-in-Break : goal.returns-in-Break
returns-in-Break c = c.loop-j.invariant.1 _ (c.near_end-from.ensures.to_end _ (string-stop c.args.s.now c.near_end-from.result c.in-Break.r (turn-as c.next_character.ensures c.in-Break.is)))
