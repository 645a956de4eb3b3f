use Prim.Native.Nat.{◌+◌}
use native.Mathlib.Omega.{arith}
use mathlib.Core.Path.{◌≡◌, subst}
use borrow.Author.Rules.{rules}
use Rattle.json_strings.proofs.Bare.{BareFor, bare-none, bare-more}
use Rattle.json_strings.proofs.are_bare.Goals as goal

pub loop-k-init : goal.loop-k-init
loop-k-init c = (search rules, λ e. bare-none c.args.s.now c.args.at)

pub overflow_cast-s : goal.overflow_cast-s
overflow_cast-s c = omega (arith, c.type_inv.s (c.args.at + c.loop-k.k))

pub loop-k-preserved : goal.loop-k-preserved
loop-k-preserved c =
    let args = c.args in
    let loop = c.loop-k in
    (search rules, bare-more args.s.now args.at loop.k loop.all c.is_bare-all.result c.is_bare-all.ensures loop.invariant.1)

pub returns : goal.returns
returns c = λ e. let n : c.loop-k.k ≡ 16 = omega arith in subst (BareFor c.args.s.now c.args.at) n (c.loop-k.invariant.1 e)
