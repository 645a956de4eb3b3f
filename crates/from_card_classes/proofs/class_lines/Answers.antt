use native.Mathlib.Omega.{arith}
use mathlib.Core.Path.{◌∙◌}
use Rattle.line_unfold.proofs.Lookup.{table-long}
use Rattle.from_card_classes.proofs.Passing.{filled, unfilled, line-here, line-cut, line-room, ready-none, through-none, through-bad, through-next, through-end}
use Rattle.from_card_classes.proofs.class_lines.Goals as goal

pub loop-k-init : goal.loop-k-init
loop-k-init c =
    (ready-none c.begun-p.result c.begun-p.ensures c.requires.1, c.requires.1.parts, c.requires.1.room, λ raw laid. through-none c.args.bytes.now c.args.codes.now c.args.ids.now raw c.begun-p.result c.begun-p.ensures)

pub bounds-starts-k : goal.bounds-starts-k
bounds-starts-k c =
    omega (arith, table-long c.requires.0.0 c.args.n c.args.bytes.now c.args.starts.now c.requires.0.1 c.loop-k.k c.loop-k-test.true)

pub returns-then-not-fill : goal.returns-then-not-fill
returns-then-not-fill c =
    λ raw laid. through-bad (c.loop-k.invariant.3 raw laid) (omega (arith, laid.count, c.loop-k-test.true)) (line-here laid c.loop-k-test.true c.line_at-s.ensures) c.args.starts.now c.args.n
    (unfilled c.line_at-s.result.now c.fill.new.t c.fill.result c.if-not-fill.true c.fill.ensures)

pub next_line-p-requires : goal.next_line-p-requires
next_line-p-requires c = (
  omega (arith, c.requires.0.1.few, c.loop-k-test.true),
  omega (arith, c.requires.1.numbers, c.loop-k.auto.codes, c.loop-k-test.true),
  c.loop-k.invariant.0,
  line-cut c.requires.0.1 c.loop-k-test.true c.line_at-s.ensures,
  (filled c.line_at-s.result.now c.fill.new.t c.fill.result c.if-not-fill.false c.fill.ensures).sound,
  line-room c.requires.0.1 c.loop-k-test.true c.line_at-s.ensures c.loop-k.invariant.2,
)

pub loop-k-preserved : goal.loop-k-preserved
loop-k-preserved c = (
  c.next_line-p.ensures.ready,
  omega (arith, c.fill.auto.t, c.loop-k.invariant.1),
  record { fits = omega (arith, c.next_line-p.auto.text, c.loop-k.invariant.2.fits); small = c.loop-k.invariant.2.small },
  λ raw laid. through-next (c.loop-k.invariant.3 raw laid) (omega (arith, laid.count, c.loop-k-test.true)) (line-here laid c.loop-k-test.true c.line_at-s.ensures)
      (filled c.line_at-s.result.now c.fill.new.t c.fill.result c.if-not-fill.false c.fill.ensures) c.next_line-p.ensures,
)

pub returns : goal.returns
returns c =
    λ raw laid. through-end (c.loop-k.invariant.3 raw laid) laid (omega (arith, c.requires.1.numbers, c.loop-k.auto.codes)) (omega (arith, c.loop-k-test.false)) c.loop-k.auto.k-end c.refusal_of.result c.refusal_of.ensures
