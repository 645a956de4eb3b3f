use Rattle.stream_reader.proofs.Laws.{agrees-off, agrees-end, agrees-long, agrees-not, agrees_on}
use native.Mathlib.Omega.{arith}
use mathlib.Core.Path.{sym, ◌∙◌}
use Rattle.stream_reader.proofs.agrees.Goals as goal

pub returns-then-not-on : goal.returns-then-not-on
returns-then-not-on c = sym (rw c.if-not-on.true (agrees-off c.args.pat.now c.args.col c.args.run.now))

pub loop-j-init : goal.loop-j-init
loop-j-init c = (omega arith, rw c.if-not-on.false)

pub returns-then-c-pat : goal.returns-then-c-pat
returns-then-c-pat c =
    let args = c.args in
    let loop = c.loop-j in
    sym (agrees-long args.pat.now args.run.now loop.c loop.j c.loop-j-test.true c.if-c-pat.true) ∙ loop.invariant.1

pub bounds-pat-c : goal.bounds-pat-c
bounds-pat-c c = omega arith

pub bounds-run-j : goal.bounds-run-j
bounds-run-j c = omega arith

pub returns-then-pat-c : goal.returns-then-pat-c
returns-then-pat-c c =
    let args = c.args in
    let loop = c.loop-j in
    let loop-test = c.loop-j-test in
    let if2 = c.if-c-pat in
    sym
    (agrees-not args.pat.now args.run.now loop.c loop.j loop-test.true if2.false
    (λ e. c.if-pat-c.true (e ∙ sym c.lower_of.ensures)))
    ∙ loop.invariant.1

pub loop-j-preserved : goal.loop-j-preserved
loop-j-preserved c =
    let args = c.args in
    let loop = c.loop-j in
    let loop-test = c.loop-j-test in
    let if2 = c.if-c-pat in (
      omega (arith, loop-test.true),
      rw c.bump-c.ensures (sym (agrees_on args.pat.now args.run.now loop.c loop.j loop-test.true if2.false (c.if-pat-c.false ∙ c.lower_of.ensures)) ∙ loop.invariant.1),
    )

pub returns : goal.returns
returns c = sym (agrees-end c.args.pat.now c.args.run.now c.loop-j.c c.loop-j.j c.loop-j-test.false) ∙ c.loop-j.invariant.1
