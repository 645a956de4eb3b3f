use mathlib.Core.Path.{ap}
use Rattle.stream_reader.proofs.Laws.{close_open, close-shut}
use Rattle.stream_reader.proofs.State.close.Goals as goal

pub returns-then-self-is_begin : goal.returns-then-self-is_begin
returns-then-self-is_begin c =
    let args = c.args in
    let kind = c.kind-k in
    let end-verdict = c.end_verdict in
    let told = c.told-event in
    let if1 = c.if-self-is_begin in
    let put_front = c.put_front in
    let e = close_open args.self args.card.now _ kind.ensures _ end-verdict.ensures _ told.ensures (rw (← c.is_begin.ensures) if1.true) _
    c.opened-next.ensures _ put_front.ensures in record { value = ap (λ x. x.0) e; card_after = ap (λ x. x.1) e }

pub returns : goal.returns
returns c =
    let args = c.args in
    let kind = c.kind-k in
    let end-verdict = c.end_verdict in
    let told = c.told-event in
    let e = close-shut args.self args.card.now _ kind.ensures _ end-verdict.ensures _ told.ensures (rw (← c.is_begin.ensures) c.if-self-is_begin.false) _
    c.fresh-next.ensures in record { value = ap (λ x. x.0) e; card_after = ap (λ x. x.1) e }
