use Rattle.to_card_name.proofs.Members.{full-absent, full-wrong, full_at}
use Rattle.to_card_name.proofs.full_in.Goals as goal

pub returns-then-slot-eq0 : goal.returns-then-slot-eq0
returns-then-slot-eq0 c = full-absent c.args.s.now c.args.slot c.if-slot-eq0.true

pub returns-then-q-eq0 : goal.returns-then-q-eq0
returns-then-q-eq0 c =
    let args = c.args in
    let string-in = c.string_in-q in
    full-wrong args.s.now args.slot c.if-slot-eq0.false string-in.result string-in.ensures c.if-q-eq0.true

pub returns : goal.returns
returns c =
    let args = c.args in
    let string-in = c.string_in-q in
    full_at args.s.now args.slot c.if-slot-eq0.false string-in.result string-in.ensures c.if-q-eq0.false
