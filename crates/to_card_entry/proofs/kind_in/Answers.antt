use Rattle.to_card_entry.proofs.Values.{kind-absent, kind-no-string, kind-other, kind_at}
use Rattle.to_card_entry.proofs.kind_in.Goals as goal

pub returns-then-slot-eq0 : goal.returns-then-slot-eq0
returns-then-slot-eq0 c = kind-absent c.args.s.now c.args.slot c.args.kinds.now c.args.count c.if-slot-eq0.true

pub returns-then-q-eq0 : goal.returns-then-q-eq0
returns-then-q-eq0 c =
    let args = c.args in
    let string-in = c.string_in-q in
    kind-no-string args.s.now args.slot args.kinds.now args.count c.if-slot-eq0.false string-in.result
    string-in.ensures c.if-q-eq0.true

pub returns-then-k-count : goal.returns-then-k-count
returns-then-k-count c =
    let args = c.args in
    let if1 = c.if-slot-eq0 in
    let string-in = c.string_in-q in
    let which-name = c.which_name-k in
    kind-other args.s.now args.slot args.kinds.now args.count if1.false string-in.result string-in.ensures
    c.if-q-eq0.false which-name.result which-name.ensures c.if-k-count.true

pub returns : goal.returns
returns c =
    let args = c.args in
    let if1 = c.if-slot-eq0 in
    let string-in = c.string_in-q in
    let which-name = c.which_name-k in
    kind_at args.s.now args.slot args.kinds.now args.count if1.false string-in.result string-in.ensures
    c.if-q-eq0.false which-name.result which-name.ensures c.if-k-count.false
