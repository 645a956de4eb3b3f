use Rattle.to_card_head.proofs.Slots.{same-absent, same-no, same-is}
use Rattle.to_card_head.proofs.holds.Goals as goal

pub returns-then-slot-eq0 : goal.returns-then-slot-eq0
returns-then-slot-eq0 c = same-absent c.args.s.now c.args.slot c.args.bytes.now c.if-slot-eq0.true

pub returns-then-q-eq0 : goal.returns-then-q-eq0
returns-then-q-eq0 c =
    let args = c.args in
    let string-in = c.string_in-q in
    same-no args.s.now args.slot args.bytes.now c.if-slot-eq0.false string-in.result string-in.ensures c.if-q-eq0.true

pub returns : goal.returns
returns c =
    let args = c.args in
    let if1 = c.if-slot-eq0 in
    let string-in = c.string_in-q in
    same-is args.s.now args.slot args.bytes.now if1.false string-in.result string-in.ensures c.if-q-eq0.false
    c.equals.result c.equals.ensures
