use mathlib.Core.Bool.{false}
use Rattle.to_card_kept_names.proofs.Groups.{has_last, has-empty, has-slot}
use Rattle.to_card_kept_names.proofs.has_walked.Goals as goal

pub returns-then-i-eq-POINTERS : goal.returns-then-i-eq-POINTERS
returns-then-i-eq-POINTERS c =
    let args = c.args in
    has_last args.s.now args.slots.now args.i args.key.now c.has_member.result c.if-i-eq-POINTERS.true c.has_member.ensures

pub returns-then-at-eq0 : goal.returns-then-at-eq0
returns-then-at-eq0 c =
    let args = c.args in
    let if1 = c.if-i-eq-POINTERS in
    has-empty args.s.now args.slots.now args.i args.key.now false if1.false c.if-at-eq0.true

pub returns : goal.returns
returns c =
    let args = c.args in
    let if1 = c.if-i-eq-POINTERS in
    has-slot args.s.now args.slots.now args.i args.key.now c.has_member-2.result if1.false c.if-at-eq0.false c.has_member-2.ensures
