use Rattle.stream.specs.Calls.{end}
use Rattle.thymebarrel.proofs.Streaming.{call-told}
use Rattle.thymebarrel.proofs.thymebarrel_stream_end.Goals as goal

pub returns : goal.returns
returns c =
    let a = c.args in
    let state-in = c.state_in in
    let end' = c.end-a in
    let told = c.tell_call in
    call-told (end a.stem.now) a.state.now a.buffer.now a.out.now _ state-in.ensures end'.result _ _ end'.ensures _ _ _ told.ensures
