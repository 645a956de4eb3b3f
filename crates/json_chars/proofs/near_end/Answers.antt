use borrow.Author.Rules.{rules}
use native.Mathlib.Omega.{arith}
use Rattle.json_chars.proofs.Laws.{plain-on, unmarked-none, unmarked-one, unmarked-join}
use Rattle.json_chars.proofs.near_end.Goals as goal

pub loop-at-init : goal.loop-at-init
loop-at-init c = (search rules, search rules, λ r x. x, unmarked-none c.args.s.now c.args.at)

pub look-b-requires : goal.look-b-requires
look-b-requires c = c.loop-at.invariant.1

pub returns-then-b-gt127 : goal.returns-then-b-gt127
returns-then-b-gt127 c = let loop = c.loop-at in record { lower_bound = (loop.invariant.0, loop.invariant.1); to_end = loop.invariant.2; unmarked = loop.invariant.3 }

pub overflow_add-i : goal.overflow_add-i
overflow_add-i c = omega (arith, c.look-b.ensures.1, c.if-b-gt127.false, c.loop-at.invariant.1)

pub loop-at-smaller-then-b-gt-BACKSLASH : goal.loop-at-smaller-then-b-gt-BACKSLASH
loop-at-smaller-then-b-gt-BACKSLASH c = omega (arith, c.look-b.ensures.1, c.if-b-gt127.false, c.loop-at.invariant.1)

pub loop-at-preserved-then-b-gt-BACKSLASH : goal.loop-at-preserved-then-b-gt-BACKSLASH
loop-at-preserved-then-b-gt-BACKSLASH c =
    let args = c.args in
    let loop = c.loop-at in
    let look = c.look-b in (
      omega (arith, loop.invariant.0),
      omega (arith, look.ensures.1, c.if-b-gt127.false, loop.invariant.1),
      λ r x. loop.invariant.2 r (plain-on args.s.now loop.i look.result look.ensures.0 (omega (arith, c.if-b-gt-BACKSLASH.true)) (omega (arith, c.if-b-gt-BACKSLASH.true)) (omega (arith, c.if-b-gt-BACKSLASH.true)) (omega (arith, c.if-b-gt127.false)) (omega (arith, look.ensures.1, c.if-b-gt127.false, loop.invariant.1)) r x),
      unmarked-join args.s.now loop.invariant.3
          (unmarked-one args.s.now loop.i look.result look.ensures.0 (omega (arith, look.ensures.1, c.if-b-gt127.false)) (omega (arith, c.if-b-gt-BACKSLASH.true)) (omega (arith, c.if-b-gt-BACKSLASH.true)) (omega (arith, c.if-b-gt-BACKSLASH.true))),
    )

pub returns-then-b-eq-QUOTE : goal.returns-then-b-eq-QUOTE
returns-then-b-eq-QUOTE c = let loop = c.loop-at in record { lower_bound = (loop.invariant.0, loop.invariant.1); to_end = loop.invariant.2; unmarked = loop.invariant.3 }

pub returns-then-b-eq-BACKSLASH : goal.returns-then-b-eq-BACKSLASH
returns-then-b-eq-BACKSLASH c = let loop = c.loop-at in record { lower_bound = (loop.invariant.0, loop.invariant.1); to_end = loop.invariant.2; unmarked = loop.invariant.3 }

pub returns-then-b-lt32 : goal.returns-then-b-lt32
returns-then-b-lt32 c = let loop = c.loop-at in record { lower_bound = (loop.invariant.0, loop.invariant.1); to_end = loop.invariant.2; unmarked = loop.invariant.3 }

pub overflow_add-i-in-loop-at : goal.overflow_add-i-in-loop-at
overflow_add-i-in-loop-at c = omega (arith, c.look-b.ensures.1, c.if-b-gt-BACKSLASH.false, c.loop-at.invariant.1)

pub loop-at-smaller : goal.loop-at-smaller
loop-at-smaller c = omega (arith, c.look-b.ensures.1, c.if-b-gt-BACKSLASH.false, c.loop-at.invariant.1)

pub loop-at-preserved : goal.loop-at-preserved
loop-at-preserved c =
    let args = c.args in
    let loop = c.loop-at in
    let look = c.look-b in
    let if1 = c.if-b-gt-BACKSLASH in (
      omega (arith, loop.invariant.0),
      omega (arith, look.ensures.1, if1.false, loop.invariant.1),
      λ r x. loop.invariant.2 r (plain-on args.s.now loop.i look.result look.ensures.0 c.if-b-eq-QUOTE.false c.if-b-eq-BACKSLASH.false (omega (arith, c.if-b-lt32.false)) (omega (arith, if1.false)) (omega (arith, look.ensures.1, if1.false, loop.invariant.1)) r x),
      unmarked-join args.s.now loop.invariant.3
          (unmarked-one args.s.now loop.i look.result look.ensures.0 (omega (arith, look.ensures.1, if1.false)) (omega (arith, c.if-b-lt32.false)) c.if-b-eq-QUOTE.false c.if-b-eq-BACKSLASH.false),
    )
