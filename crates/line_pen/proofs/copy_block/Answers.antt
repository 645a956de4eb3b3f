use native.Mathlib.Omega.{arith}
use Rattle.output.proofs.Laws.{start}
use Rattle.line_pen.proofs.Copying.{byte_more, block-done}
use Rattle.line_pen.proofs.copy_block.Goals as goal

pub loop-j-init : goal.loop-j-init
loop-j-init c = (omega arith, start _)

pub bounds-s-j : goal.bounds-s-j
bounds-s-j c = omega (arith, c.loop-j-test.true, c.requires.1)

pub bounds-block-j : goal.bounds-block-j
bounds-block-j c = omega (arith, c.loop-j-test.true, c.loop-j.invariant.1.same)

pub loop-j-preserved : goal.loop-j-preserved
loop-j-preserved c =
    let l = c.loop-j in
    let t = c.loop-j-test.true in
    (omega (arith, t), byte_more c.args.s.now l.j (omega (arith, t, c.requires.1)) (omega (arith, t, l.invariant.1.same)) l.invariant.1)

pub loop-k-init : goal.loop-k-init
loop-k-init c = (omega arith, start _)

pub bounds-block-k : goal.bounds-block-k
bounds-block-k c = omega (arith, c.loop-k-test.true, c.loop-j.invariant.1.same)

pub bounds-out-k : goal.bounds-out-k
bounds-out-k c = omega (arith, c.loop-k-test.true, c.loop-k.invariant.1.same, c.requires.0)

pub loop-k-preserved : goal.loop-k-preserved
loop-k-preserved c =
    let l = c.loop-k in
    let t = c.loop-k-test.true in
    let block = c.loop-j in
    (omega (arith, t), byte_more block.block l.k (omega (arith, t, block.invariant.1.same)) (omega (arith, t, l.invariant.1.same, c.requires.0)) l.invariant.1)

pub shape_of-out : goal.shape_of-out
shape_of-out c = c.loop-k.invariant.1.same

pub returns : goal.returns
returns c =
    let read = c.loop-j.invariant in
    let written = c.loop-k.invariant in
    block-done c.args.s.now (omega (arith, c.loop-j-test.false, read.0)) (omega (arith, c.loop-k-test.false, written.0)) read.1 written.1
