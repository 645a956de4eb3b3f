use Rattle.convert.specs.Value.{filled}
use Rattle.to_card_head.proofs.Slots.{filled-absent, filled-there, test-none, test-fails, test-holds}
use Rattle.to_card_head.proofs.filled_in.Goals as goal

pub returns-then-slot-eq0 : goal.returns-then-slot-eq0
returns-then-slot-eq0 c = filled-absent c.args.s.now c.args.slot c.if-slot-eq0.true

pub returns-then-q-eq0 : goal.returns-then-q-eq0
returns-then-q-eq0 c =
    let args = c.args in
    let string-in = c.string_in-q in
    filled-there args.s.now args.slot c.if-slot-eq0.false 0
    (λ v w. test-none filled args.s.now args.slot string-in.result string-in.ensures 15 v w c.if-q-eq0.true)

pub returns-then-not-is_filled : goal.returns-then-not-is_filled
returns-then-not-is_filled c =
    let args = c.args in
    let if1 = c.if-slot-eq0 in
    let string-in = c.string_in-q in
    let is-filled = c.is_filled in
    filled-there args.s.now args.slot if1.false 0
    (λ v w. test-fails filled args.s.now args.slot string-in.result string-in.ensures 15 v w c.if-q-eq0.false
    is-filled.result is-filled.ensures c.if-not-is_filled.true)

pub returns : goal.returns
returns c =
    let args = c.args in
    let if1 = c.if-slot-eq0 in
    let string-in = c.string_in-q in
    let is-filled = c.is_filled in
    filled-there args.s.now args.slot if1.false string-in.result
    (λ v w. test-holds filled args.s.now args.slot string-in.result string-in.ensures 15 v w c.if-q-eq0.false
    is-filled.result is-filled.ensures c.if-not-is_filled.false)
