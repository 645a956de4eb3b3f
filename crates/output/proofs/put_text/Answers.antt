use Prim.Native.Nat.{◌+◌, ◌<◌}
use mathlib.Core.Path.{◌≡◌, subst}
use native.Mathlib.Omega.{arith}
use lib.ListN.{length, drop}
use lib.Seq.{take_all}
use Rattle.std.specs.Prelude.{Ok}
use Rattle.output.specs.Put.{Puts}
use Rattle.output.proofs.Laws.{start, byte, no_byte, done, more, puts-as, sofar-as}
use Rattle.output.proofs.Pieces.{one_more, whole}
use Rattle.output.proofs.put_text.Goals as goal

pub loop-i-init : goal.loop-i-init
loop-i-init c = (omega arith, start _)

pub shape_of-out-then-i-out : goal.shape_of-out-then-i-out
shape_of-out-then-i-out c = c.loop-i.invariant.1.same

pub returns-then-i-out : goal.returns-then-i-out
returns-then-i-out c =
    let src = c.args.src.now in
    let i = c.loop-i.i in
    let lt : i < length src = c.loop-i-test.true in
    puts-as (whole src i lt) (more (drop (i + 1) src) (no_byte _ c.loop-i.invariant.1 c.if-i-out.true))

pub loop-i-preserved : goal.loop-i-preserved
loop-i-preserved c =
    let src = c.args.src.now in
    let i = c.loop-i.i in
    let lt : i < length src = c.loop-i-test.true in
    (omega arith, sofar-as (one_more src i lt) (byte _ c.loop-i.invariant.1 c.if-i-out.false))

pub shape_of-out : goal.shape_of-out
shape_of-out c = c.loop-i.invariant.1.same

pub returns : goal.returns
returns c =
    let args = c.args in
    let loop = c.loop-i in
    let all : loop.i ≡ length args.src.now = omega (arith, loop.invariant.0, c.loop-i-test.false) in
    subst (λ n. Puts args.out.now args.src.now (Ok n) loop.out) all (puts-as (take_all loop.i args.src.now c.loop-i-test.false) (done loop.invariant.1))
