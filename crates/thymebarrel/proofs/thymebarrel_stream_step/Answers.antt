use Rattle.stream.specs.Calls.{piece}
use Rattle.thymebarrel.proofs.Streaming.{call-told}
use Rattle.thymebarrel.proofs.thymebarrel_stream_step.Goals as goal

pub returns : goal.returns
returns c =
    let a = c.args in
    let state-in = c.state_in in
    let step = c.step-a in
    let told = c.tell_call in
    call-told (piece a.stem.now a.piece.now) a.state.now a.buffer.now a.out.now _ state-in.ensures step.result _ _ step.ensures _ _ _ told.ensures
