use native.Mathlib.Omega.{arith}
use borrow.Author.Rules.{rules}
use Rattle.line_text.proofs.Plain.{plain-none, plain-on}
use Rattle.line_text.proofs.plain_end.Goals as goal

pub loop-i-init : goal.loop-i-init
loop-i-init c = (search rules, search rules, plain-none c.args.s.now c.args.at)

pub overflow_add-i : goal.overflow_add-i
overflow_add-i c = omega (arith, (c.skips.ensures c.loop-i-test.true).0)

pub loop-i-smaller : goal.loop-i-smaller
loop-i-smaller c = omega (arith, (c.skips.ensures c.loop-i-test.true).0)

pub loop-i-preserved : goal.loop-i-preserved
loop-i-preserved c =
    let k = c.skips.ensures c.loop-i-test.true in
    (omega (arith, c.loop-i.invariant.0), k.0, plain-on c.args.s.now _ _ _ c.loop-i.invariant.2 k.1)

pub plain_from-requires : goal.plain_from-requires
plain_from-requires c = c.loop-i.invariant.1

pub returns : goal.returns
returns c =
    let l = c.loop-i.invariant in
    let f = c.plain_from.ensures in
    (omega (arith, l.0, f.0), f.1, plain-on c.args.s.now _ _ _ l.2 f.2)
