use Rattle.table_params.proofs.Notes.{type-not, type-is}
use Rattle.table_params.proofs.mark_row.Goals as goal

pub returns-then-not-is_named : goal.returns-then-not-is_named
returns-then-not-is_named c = type-not c.args.n _ _ _ c.args.row.now c.is_named.ensures c.if-not-is_named.true

pub returns : goal.returns
returns c = type-is c.args.n _ _ _ _ _ _ c.is_named.ensures c.if-not-is_named.false c.mark_value.ensures
