use Rattle.c_calls.proofs.Numbers.{no_row, row_read}
use Rattle.thymebarrel.proofs.state_in.Goals as goal

pub returns-then-row-ne-STATE : goal.returns-then-row-ne-STATE
returns-then-row-ne-STATE c = no_row c.args.row.now c.if-row-ne-STATE.true

pub returns : goal.returns
returns c = row_read c.args.row.now c.if-row-ne-STATE.false
