use mathlib.Core.Path.{refl, sym, ◌∙◌}
use native.Mathlib.Omega.{arith}
use Rattle.text_words.proofs.Runs.{run_out, turn_on, turn-stops, turn-within}
use Rattle.text_words.proofs.run_end.Goals as goal

pub returns-then-at-s : goal.returns-then-at-s
returns-then-at-s g c = sym (run_out g.R.Run.passes c.args.s.now c.args.at (omega (arith, c.if-at-s.true)))

pub loop-i-init : goal.loop-i-init
loop-i-init g c = (omega (arith, c.if-at-s.false), refl)

pub overflow_add-i : goal.overflow_add-i
overflow_add-i g c = omega (arith, c.loop-i.invariant.0, c.well_formed.0.0)

pub word_at-requires : goal.word_at-requires
word_at-requires g c = omega (arith, c.loop-i.invariant.0, c.loop-i-test.true)

pub overflow_add-result : goal.overflow_add-result
overflow_add-result g c =
    let loop = c.loop-i in
    let s = c.args.s.now in
    omega (arith, turn-within g.R.Run.passes s loop.i c.word_at.result c.marks-m.result c.word_at.ensures c.marks-m.ensures c.first_mark.result c.first_mark.ensures (omega (arith, loop.invariant.0, c.loop-i-test.true)) c.if-m-ne0.true)

pub returns-then-m-ne0 : goal.returns-then-m-ne0
returns-then-m-ne0 g c =
    let loop = c.loop-i in
    let s = c.args.s.now in
    sym (loop.invariant.1
    ∙ turn-stops g.R.Run.passes s loop.i c.word_at.result c.marks-m.result c.word_at.ensures c.marks-m.ensures c.first_mark.result c.first_mark.ensures (omega (arith, loop.invariant.0, c.loop-i-test.true)) c.if-m-ne0.true)

pub overflow_add-i-in-loop-i : goal.overflow_add-i-in-loop-i
overflow_add-i-in-loop-i g c = omega (arith, c.loop-i.invariant.0, c.loop-i-test.true)

pub loop-i-smaller : goal.loop-i-smaller
loop-i-smaller g c = omega (arith, c.loop-i.invariant.0, c.loop-i-test.true)

pub loop-i-preserved : goal.loop-i-preserved
loop-i-preserved g c =
    let loop = c.loop-i in
    let s = c.args.s.now in (
      omega (arith, loop.invariant.0, c.loop-i-test.true),
      loop.invariant.1 ∙ turn_on g.R.Run.passes s loop.i c.word_at.result c.marks-m.result c.word_at.ensures c.marks-m.ensures (omega (arith, loop.invariant.0, c.loop-i-test.true)) c.if-m-ne0.false,
    )

pub returns : goal.returns
returns g c = c.run_from.ensures ∙ sym c.loop-i.invariant.1
