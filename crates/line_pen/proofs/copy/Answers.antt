use native.Mathlib.Omega.{arith}
use Rattle.output.proofs.Laws.{start}
use Rattle.line_pen.proofs.Copying.{byte_more, bytes-done}
use Rattle.line_pen.proofs.copy.Goals as goal

pub loop-i-init : goal.loop-i-init
loop-i-init c = (omega arith, start _)

pub bounds-out-i : goal.bounds-out-i
bounds-out-i c = omega (arith, c.loop-i-test.true, c.loop-i.invariant.1.same, c.requires)

pub loop-i-preserved : goal.loop-i-preserved
loop-i-preserved c =
    let l = c.loop-i in
    let t = c.loop-i-test.true in
    (omega (arith, t), byte_more c.args.s.now l.i t (omega (arith, t, l.invariant.1.same, c.requires)) l.invariant.1)

pub shape_of-out : goal.shape_of-out
shape_of-out c = c.loop-i.invariant.1.same

pub returns : goal.returns
returns c = bytes-done c.args.s.now c.loop-i-test.false c.loop-i.invariant.1
