use borrow.Author.Rules.{rules}
use native.Mathlib.Omega.{arith}
use Rattle.text.proofs.Places.{turn-as}
use Rattle.json_chars.proofs.Laws.{string-on, unmarked-none, unmarked-join, unmarked-wide}
use Rattle.json_chars.proofs.text_end.Goals as goal

pub loop-at-init : goal.loop-at-init
loop-at-init c = (search rules, search rules, λ r x. x, unmarked-none c.args.s.now c.args.at)

pub plain_end-from-requires : goal.plain_end-from-requires
plain_end-from-requires c = c.loop-at.invariant.1

pub look-requires : goal.look-requires
look-requires c = c.plain_end-from.ensures.lower_bound.1

-- up to where the bytes that are characters by themselves end
pub returns-then-look-lt128 : goal.returns-then-look-lt128
returns-then-look-lt128 c =
    let loop = c.loop-at in
    record {
      lower_bound = (omega (arith, loop.invariant.0, c.plain_end-from.ensures.lower_bound.0), c.plain_end-from.ensures.lower_bound.1);
      to_end = λ r x. loop.invariant.2 r (c.plain_end-from.ensures.to_end r x);
      unmarked = unmarked-join c.args.s.now loop.invariant.3 c.plain_end-from.ensures.unmarked;
    }

pub next_character-requires : goal.next_character-requires
next_character-requires c = c.plain_end-from.ensures.lower_bound.1

pub loop-at-smaller : goal.loop-at-smaller
loop-at-smaller c = let h = turn-as c.next_character.ensures c.in-Continue.is in omega (arith, h.within.0, h.within.1, c.plain_end-from.ensures.lower_bound.0)

pub loop-at-preserved : goal.loop-at-preserved
loop-at-preserved c =
    let s = c.args.s.now in
    let loop = c.loop-at in
    let look = c.look in
    let j = c.in-Continue.j in
    let h = turn-as c.next_character.ensures c.in-Continue.is in
    let from = c.plain_end-from.result in
    let wide = unmarked-wide s from look.result look.ensures.0 (omega (arith, h.within.0, h.within.1)) (omega (arith, c.if-look-lt128.false)) j h in (
      omega (arith, loop.invariant.0, c.plain_end-from.ensures.lower_bound.0, h.within.0),
      h.within.1,
      λ r x. loop.invariant.2 r (c.plain_end-from.ensures.to_end r (string-on s from j h r x)),
      unmarked-join s loop.invariant.3 (unmarked-join s c.plain_end-from.ensures.unmarked wide),
    )

pub returns-in-Break : goal.returns-in-Break
returns-in-Break c =
    let loop = c.loop-at in
    record {
      lower_bound = (omega (arith, loop.invariant.0, c.plain_end-from.ensures.lower_bound.0), c.plain_end-from.ensures.lower_bound.1);
      to_end = λ r x. loop.invariant.2 r (c.plain_end-from.ensures.to_end r x);
      unmarked = unmarked-join c.args.s.now loop.invariant.3 c.plain_end-from.ensures.unmarked;
    }
