use Rattle.stream_cards.proofs.Laws.{fed-answer}
use Rattle.stream_cards.proofs.finish.Goals as goal

pub returns : goal.returns
returns c =
    let a = c.args in
    record { value = fed-answer a.f a.stem.now a.buffer.now a.out.now _ c.say-said.ensures.value; out_after = c.say-said.ensures.out_after }
