use Rattle.stream_reader.proofs.Laws.{store-single}
use Rattle.stream_reader.specs.Machine.{line_buffer}
use Rattle.stream_reader.proofs.State.end_line.Goals as goal

pub returns-then-self-is_begin : goal.returns-then-self-is_begin
unfolding line_buffer
returns-then-self-is_begin c =
    let args = c.args in
    let copy-in = c.copy_in in
    let if1 = c.if-self-is_begin in
    rw (← c.is_begin.ensures, if1.true, ← store-single args.self.len args.card.now 10, ← copy-in.ensures) c.put_front.ensures

pub returns : goal.returns
unfolding line_buffer
returns c = rw (← c.is_begin.ensures, c.if-self-is_begin.false, ← store-single c.args.self.len c.args.card.now 10) c.copy_in.ensures
