use Rattle.line_table.specs.Table.{line_in}
use Rattle.pieces.proofs.Parsing.{passed-any, passed-known, passed-not}
use Rattle.pieces.proofs.pass.Goals as goal

pub returns-then-marks-eq0 : goal.returns-then-marks-eq0
returns-then-marks-eq0 c = passed-any c.args.marks (line_in c.args.line.now c.args.table.now).params c.if-marks-eq0.true

pub returns-then-knows_params : goal.returns-then-knows_params
returns-then-knows_params c =
    passed-known c.args.marks (line_in c.args.line.now c.args.table.now).params c.knows_params.result c.if-marks-eq0.false c.knows_params.ensures c.if-knows_params.true

pub returns : goal.returns
returns c =
    passed-not c.args.marks (line_in c.args.line.now c.args.table.now).params c.knows_params.result c.if-marks-eq0.false c.knows_params.ensures c.if-knows_params.false
