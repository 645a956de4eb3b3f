use Prim.Native.Nat.{◌+◌}
use native.Mathlib.Omega.{arith}
use mathlib.Core.Path.{◌≡◌, refl, subst}
use lib.ListN.{length, length-set}
use Rattle.line_unfold.specs.Table.{Adds}
use Rattle.line_unfold.proofs.Adding.{adds_none, adds-more, adds-all}
use Rattle.line_unfold.proofs.append.Goals as goal

pub loop-i-init : goal.loop-i-init
loop-i-init c = (omega arith, refl, adds_none c.args.out.now c.args.src.now c.args.at)

pub overflow_add-out : goal.overflow_add-out
overflow_add-out c = omega (arith, c.requires, c.well_formed.0.0)

pub bounds-out-at : goal.bounds-out-at
bounds-out-at c = omega (arith, c.requires, c.loop-i.invariant.1)

pub loop-i-preserved : goal.loop-i-preserved
loop-i-preserved c =
    let pre = c.requires in
    let args = c.args in
    let loop = c.loop-i in (
      omega arith,
      simp length-set loop.invariant.1,
      adds-more args.out.now args.src.now args.at loop.out loop.i loop.invariant.2 c.loop-i-test.true (omega (arith, pre, loop.invariant.1)),
    )

pub shape_of-out : goal.shape_of-out
shape_of-out c = c.loop-i.invariant.1

pub returns : goal.returns
returns c =
    let args = c.args in
    let loop = c.loop-i in
    let all : loop.i ≡ length args.src.now = omega (arith, loop.invariant.0, c.loop-i-test.false) in
    subst (λ m. Adds args.out.now args.at args.src.now (args.at + m) loop.out) all (adds-all args.out.now args.src.now args.at loop.out loop.i loop.invariant.2 c.loop-i-test.false)
