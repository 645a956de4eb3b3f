use Rattle.table_params.proofs.Notes.{row_more, row_first}
use Rattle.table_params.proofs.note_row.Goals as goal

pub returns-then-n-ne0 : goal.returns-then-n-ne0
returns-then-n-ne0 c = row_more c.args.counts.now c.args.froms.now c.args.tos.now c.args.m c.args.a c.args.b c.requires.1 c.requires.0 c.if-n-ne0.true

pub returns : goal.returns
returns c = row_first c.args.counts.now c.args.froms.now c.args.tos.now c.args.m c.args.a c.args.b c.requires.1 c.requires.0 c.if-n-ne0.false
