use borrow.Author.Rules.{rules}
use native.Mathlib.Omega.{arith}
use mathlib.Core.Path.{subst}
use Rattle.json_compact.specs.Stands.{Deletes}
use Rattle.json_compact.proofs.Stands.{deletes-none, deletes-more}
use Rattle.json_compact.proofs.has_delete.Goals as goal

pub loop-k-init : goal.loop-k-init
loop-k-init c = (search rules, search rules, deletes-none c.args.s.now c.args.from)

pub loop-k-preserved : goal.loop-k-preserved
loop-k-preserved c =
    let args = c.args in
    let loop = c.loop-k in
    (omega (arith, loop.invariant.0), omega arith, deletes-more args.s.now args.from loop.k loop.found loop.invariant.2)

pub returns : goal.returns
returns c =
    let args = c.args in
    let loop = c.loop-k in
    subst (λ (n : _). Deletes args.s.now args.from n loop.found) (omega (arith, loop.invariant.1, c.loop-k-test.false)) loop.invariant.2
