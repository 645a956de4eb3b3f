use Rattle.line_table.specs.Table.{line_in}
use Rattle.convert_entry.proofs.Entry.{types-told}
use Rattle.table_entry.proofs.types_fit.Goals as goal

pub returns : goal.returns
returns c = types-told c.args.n (line_in c.args.s.now c.args.t.now).params _ _ _ c.mark_rows.ensures
