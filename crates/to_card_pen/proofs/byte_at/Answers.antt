use Prim.Native.Nat.{◌+◌, ◌≤◌}
use lib.ListN.{length}
use native.Mathlib.Omega.{arith}
use Rattle.json_strings.proofs.Laws.{weight-falls}
use Rattle.to_card_pen.proofs.Plain.{quote-next, bare-next, in_whole, byte-whole}
use Rattle.to_card_pen.proofs.byte_at.Goals as goal

pub returns-then-hold-b : goal.returns-then-hold-b
returns-then-hold-b c = (quote-next c.args.s.now c.args.at c.args.hold c.look-b.result c.look-b.ensures.0 c.if-hold-b.true, tt)

pub overflow_cast-result : goal.overflow_cast-result
overflow_cast-result c =
    let args = c.args in
    let look = c.look-b in
    let in-range = c.in_range in
    let if1 = c.if-hold-b in
    let w = bare-next args.s.now args.at args.hold look.result look.ensures.0 in-range.result in-range.ensures if1.false c.if-hold-b-2.true in omega (arith, w.0)

pub returns-then-hold-b-2 : goal.returns-then-hold-b-2
returns-then-hold-b-2 c =
    let args = c.args in
    let look = c.look-b in
    let in-range = c.in_range in
    let if1 = c.if-hold-b in
    let w = bare-next args.s.now args.at args.hold look.result look.ensures.0 in-range.result in-range.ensures if1.false c.if-hold-b-2.true in
    let in-text : args.at + 1 ≤ length args.s.now = omega (arith, w.0, look.ensures.1) in
    (w.1, (in-text, weight-falls args.s.now args.at _ args.hold 0 (omega arith) in-text))

pub next_byte-requires : goal.next_byte-requires
next_byte-requires c = in_whole c.args.s.now c.requires

pub returns : goal.returns
returns c =
    let args = c.args in
    byte-whole args.s.now args.at args.hold c.next_byte.result c.next_byte.ensures
