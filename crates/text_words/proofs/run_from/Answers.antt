use mathlib.Core.Path.{refl, sym, ◌∙◌}
use native.Mathlib.Omega.{arith}
use Rattle.text_words.proofs.Runs.{run_on, run-stops, run_out}
use Rattle.text_words.proofs.run_from.Goals as goal

pub loop-i-init : goal.loop-i-init
loop-i-init g c = refl

pub bounds-s-i : goal.bounds-s-i
bounds-s-i g c = omega (arith, c.loop-i-test.true)

pub returns-then-not-one : goal.returns-then-not-one
returns-then-not-one g c =
    let loop = c.loop-i in
    let s = c.args.s.now in
    sym (loop.invariant ∙ run-stops g.R.Run.passes s loop.i c.loop-i-test.true (sym c.one.ensures ∙ c.if-not-one.true))

pub overflow_add-i : goal.overflow_add-i
overflow_add-i g c = omega (arith, c.loop-i-test.true)

pub loop-i-smaller : goal.loop-i-smaller
loop-i-smaller g c = omega (arith, c.loop-i-test.true)

pub loop-i-preserved : goal.loop-i-preserved
loop-i-preserved g c =
    let loop = c.loop-i in
    let s = c.args.s.now in
    loop.invariant ∙ run_on g.R.Run.passes s loop.i c.loop-i-test.true (sym c.one.ensures ∙ c.if-not-one.false)

pub returns : goal.returns
returns g c = let loop = c.loop-i in sym (loop.invariant ∙ run_out g.R.Run.passes c.args.s.now loop.i c.loop-i-test.false)
