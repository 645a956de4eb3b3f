use native.Mathlib.Omega.{arith}
use mathlib.Core.Path.{◌≡◌, subst}
use borrow.Author.Rules.{rules}
use Rattle.json_write.specs.Pieces.{BareFor}
use Rattle.json_write.proofs.Sixteen.{bare-none, bare-more}
use Rattle.json_write.proofs.are_bare.Goals as goal

pub loop-k-init : goal.loop-k-init
loop-k-init c = (search rules, λ e. bare-none c.args.s.now c.args.at)

pub loop-k-preserved : goal.loop-k-preserved
loop-k-preserved c =
    let args = c.args in
    let loop = c.loop-k in
    (search rules, bare-more args.s.now args.at loop.k loop.all c.is_bare-all.result (search rules) c.is_bare-all.ensures loop.invariant.1)

pub returns : goal.returns
returns c = λ e. let n : c.loop-k.k ≡ 16 = omega arith in subst (BareFor c.args.s.now c.args.at) n (c.loop-k.invariant.1 e)
