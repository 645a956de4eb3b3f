use borrow.Author.Rules.{rules}
use native.Mathlib.Omega.{arith}
use mathlib.Core.Path.{subst}
use Rattle.json_prints.specs.Prints.{Absent}
use Rattle.json_prints.proofs.Prints.{absent_more, absent_none}
use Rattle.json_prints.proofs.any_print.Goals as goal

pub loop-k-init : goal.loop-k-init
loop-k-init c = (search rules, search rules, absent_none c.args.prints.now c.args.p c.args.from)

pub loop-k-preserved : goal.loop-k-preserved
loop-k-preserved c =
    let args = c.args in
    let loop = c.loop-k in
    (omega (arith, loop.invariant.0), omega arith, absent_more args.prints.now args.p args.from loop.k loop.found loop.invariant.2)

pub returns : goal.returns
returns c =
    let args = c.args in
    subst (λ (n : _). Absent args.prints.now args.p args.from n c.loop-k.found) (omega (arith, c.loop-k.invariant.1, c.loop-k-test.false))
    c.loop-k.invariant.2
