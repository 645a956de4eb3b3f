use mathlib.Core.Path.{refl}
use Rattle.thymebarrel.proofs.Streaming.{told-kept, told-put}
use Rattle.thymebarrel.proofs.tell_call.Goals as goal

pub returns-then-n : goal.returns-then-n
returns-then-n c =
    let a = c.args in
    told-kept a.a a.state.now _ _ c.tell-n.ensures refl c.if-n.true

pub returns : goal.returns
returns c =
    let a = c.args in
    told-put a.a a.state.now _ _ c.tell-n.ensures refl _ c.if-n.false c.put_state.ensures
