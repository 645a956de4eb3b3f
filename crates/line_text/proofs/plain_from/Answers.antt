use native.Mathlib.Omega.{arith}
use borrow.Author.Rules.{rules}
use Rattle.line_text.proofs.Plain.{plain-none, plain-one}
use Rattle.line_text.proofs.plain_from.Goals as goal

pub loop-i-init : goal.loop-i-init
loop-i-init c = (search rules, search rules, plain-none c.args.s.now c.args.at)

pub returns-then-c-eq92 : goal.returns-then-c-eq92
returns-then-c-eq92 c = c.loop-i.invariant

pub loop-i-preserved : goal.loop-i-preserved
loop-i-preserved c =
    let loop = c.loop-i in
    (omega arith, omega arith, plain-one c.args.s.now _ loop.i loop.invariant.2 c.if-c-eq92.false)

pub returns : goal.returns
returns c = c.loop-i.invariant
