use Rattle.to_card_name.proofs.Members.{unordered-absent, unordered-is}
use Rattle.to_card_name.proofs.is_unordered.Goals as goal

pub returns-then-slot-eq0 : goal.returns-then-slot-eq0
returns-then-slot-eq0 c = unordered-absent c.args.s.now c.args.slot c.if-slot-eq0.true

pub returns-in-False : goal.returns-in-False
returns-in-False c =
    let args = c.args in
    let if1 = c.if-slot-eq0 in
    let kind_at = c.kind_at in
    unordered-is args.s.now args.slot if1.false kind_at.result kind_at.ensures _ c.in-False.is

pub returns-in-Null : goal.returns-in-Null
returns-in-Null c =
    let args = c.args in
    let if1 = c.if-slot-eq0 in
    let kind_at = c.kind_at in
    unordered-is args.s.now args.slot if1.false kind_at.result kind_at.ensures _ c.in-Null.is

pub returns-in-True : goal.returns-in-True
returns-in-True c =
    let args = c.args in
    let if1 = c.if-slot-eq0 in
    let kind_at = c.kind_at in
    unordered-is args.s.now args.slot if1.false kind_at.result kind_at.ensures _ c.in-True.is

pub returns-in-Number : goal.returns-in-Number
returns-in-Number c =
    let args = c.args in
    let if1 = c.if-slot-eq0 in
    let kind_at = c.kind_at in
    unordered-is args.s.now args.slot if1.false kind_at.result kind_at.ensures _ c.in-Number.is

pub returns-in-String : goal.returns-in-String
returns-in-String c =
    let args = c.args in
    let if1 = c.if-slot-eq0 in
    let kind_at = c.kind_at in
    unordered-is args.s.now args.slot if1.false kind_at.result kind_at.ensures _ c.in-String.is

pub returns-in-Array : goal.returns-in-Array
returns-in-Array c =
    let args = c.args in
    let if1 = c.if-slot-eq0 in
    let kind_at = c.kind_at in
    unordered-is args.s.now args.slot if1.false kind_at.result kind_at.ensures _ c.in-Array.is

pub returns-in-Object : goal.returns-in-Object
returns-in-Object c =
    let args = c.args in
    let if1 = c.if-slot-eq0 in
    let kind_at = c.kind_at in
    unordered-is args.s.now args.slot if1.false kind_at.result kind_at.ensures _ c.in-Object.is
