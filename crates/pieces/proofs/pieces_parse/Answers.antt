use Rattle.std.proofs.Common.{arith, rules}
use Rattle.line_table.specs.Table.{line_in}
use Rattle.pieces.proofs.Parsing.{one_at_most, pass-one, pass-stop, pass-end, short-table, wide-table, holds_as, no_line}
use Rattle.pieces.proofs.pieces_parse.Goals as goal

pub returns-then-table-lt-LENGTH : goal.returns-then-table-lt-LENGTH
returns-then-table-lt-LENGTH c = short-table _ _ _ _ _ c.if-table-lt-LENGTH.true

pub returns-then-not-fill : goal.returns-then-not-fill
returns-then-not-fill c =
    wide-table _ _ _ _ _ _ (omega (arith, c.if-table-lt-LENGTH.false))
    (pass-stop c.args.bytes.now c.args.starts.now c.args.marks c.loop-k.k c.args.n c.loop-k.good c.line_at-line.result.now
    c.line_at-line.ensures c.loop-k-test.true (no_line _ c.fill.new.t c.fill.result c.if-not-fill.true c.fill.ensures)
    c.loop-k.invariant.2)

pub overflow_add-good : goal.overflow_add-good
overflow_add-good c =
    record
    { fits = omega (arith, c.loop-k.invariant.1, c.loop-k-test.true, c.pass-one.ensures, one_at_most c.args.marks (line_in c.line_at-line.result.now c.fill.new.t).params, c.ranges.n.fits) }

pub loop-k-preserved : goal.loop-k-preserved
loop-k-preserved c = (
  search rules,
  omega (arith, c.loop-k.invariant.1, c.pass-one.ensures, one_at_most c.args.marks (line_in c.line_at-line.result.now c.fill.new.t).params),
  pass-one c.args.bytes.now c.args.starts.now c.args.marks c.loop-k.k c.args.n c.loop-k.good c.pass-one.result c.line_at-line.result.now c.fill.new.t c.line_at-line.ensures c.loop-k-test.true
      (holds_as _ c.fill.new.t c.fill.result c.if-not-fill.false c.fill.ensures) c.pass-one.ensures c.loop-k.invariant.2,
)

pub returns : goal.returns
returns c =
    wide-table _ _ _ _ _ _ (omega (arith, c.if-table-lt-LENGTH.false))
    (pass-end c.args.bytes.now c.args.starts.now c.args.marks c.loop-k.k c.args.n c.loop-k.good c.loop-k-test.false c.loop-k.invariant.2)
