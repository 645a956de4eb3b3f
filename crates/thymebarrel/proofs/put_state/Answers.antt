use Rattle.thymebarrel.proofs.Streaming.{row_kept, room-4, room-5, room-6, row_written}
use Rattle.thymebarrel.proofs.put_state.Goals as goal

pub returns-then-row-ne-STATE : goal.returns-then-row-ne-STATE
returns-then-row-ne-STATE c = row_kept c.args.row.now c.args.s c.if-row-ne-STATE.true

pub bounds-row-4 : goal.bounds-row-4
bounds-row-4 c =
    let a = c.args in
    room-4 a.row.now c.if-row-ne-STATE.false a.s.number c.bit_of.result a.s.len a.s.col

pub bounds-row-5 : goal.bounds-row-5
bounds-row-5 c =
    let a = c.args in
    room-5 a.row.now c.if-row-ne-STATE.false a.s.number c.bit_of.result a.s.len a.s.col c.bit_of-2.result

pub bounds-row-6 : goal.bounds-row-6
bounds-row-6 c =
    let a = c.args in
    room-6 a.row.now c.if-row-ne-STATE.false a.s.number c.bit_of.result a.s.len a.s.col c.bit_of-2.result c.bit_of-3.result

pub returns : goal.returns
returns c =
    let a = c.args in
    row_written a.row.now c.if-row-ne-STATE.false a.s _ _ _ _ c.bit_of.ensures c.bit_of-2.ensures c.bit_of-3.ensures c.bit_of-4.ensures
