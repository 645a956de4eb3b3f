use Prim.Native.Nat.{◌-◌}
use native.Mathlib.Omega.{arith}
use Rattle.to_json_sections.proofs.Lines.{none_before, first-here, first-none}
use Rattle.to_json_sections.proofs.first_of.Goals as goal

pub loop-k-init : goal.loop-k-init
loop-k-init c = (omega arith, λ j l e. absurd (omega arith))

pub bounds-codes-k : goal.bounds-codes-k
bounds-codes-k c = omega (arith, c.requires, c.loop-k-test.true)

pub returns-then-is_of : goal.returns-then-is_of
returns-then-is_of c =
    let args = c.args in
    let loop = c.loop-k in
    let loop-test = c.loop-k-test in
    let is-of = c.is_of in
    first-here args.codes.now args.n args.q is-of.result loop.k loop-test.true loop.invariant.1 is-of.ensures c.if-is_of.true

pub loop-k-preserved : goal.loop-k-preserved
loop-k-preserved c =
    let args = c.args in
    let loop = c.loop-k in
    let is-of = c.is_of in
    (omega arith, none_before args.codes.now args.q is-of.result loop.k loop.invariant.1 is-of.ensures c.if-is_of.false)

pub returns : goal.returns
returns c = first-none c.args.codes.now c.args.n c.args.q c.loop-k.k c.loop-k-test.false c.loop-k.invariant.1
