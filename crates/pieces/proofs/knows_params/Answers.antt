use Rattle.pieces.proofs.Parsing.{other-known, types-known}
use Rattle.pieces.proofs.knows_params.Goals as goal

pub returns-then-counts-ne0 : goal.returns-then-counts-ne0
returns-then-counts-ne0 c = other-known c.scan_rows.ensures c.if-counts-ne0.true

pub returns : goal.returns
returns c = types-known c.mark_rows.new.row c.mark_rows.result c.scan_rows.ensures c.if-counts-ne0.false c.mark_rows.ensures
