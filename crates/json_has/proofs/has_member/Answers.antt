use lib.ListN.{length}
use Rattle.json_walk.proofs.Laws.{less-ahead, is-over}
use Rattle.json_has.proofs.Laws.{seeking-first, found, seeking-on, not_found}
use Rattle.json_has.proofs.has_member.Goals as goal

pub loop-m-init : goal.loop-m-init
loop-m-init c =
    let a = c.args in
    ((a.at, c.first_member-m.ensures.member_in), seeking-first a.depth a.s.now a.at a.name.now c.first_member-m.result c.first_member-m.ensures.first_of)

pub returns-in_default : goal.returns-in_default
returns-in_default c =
    let a = c.args in
    not_found a.depth a.s.now a.at a.name.now c.loop-m.m (is-over c.loop-m.m c.in_default.not-At) c.loop-m.invariant.1

pub returns-then-equals : goal.returns-then-equals
returns-then-equals c =
    let a = c.args in
    let q = c.equals in
    found a.depth a.s.now a.at a.name.now c.loop-m.m c.loop-m.invariant.1 c.in-At.q c.in-At.a c.in-At.is q.result q.ensures c.if-equals.true

pub loop-m-smaller : goal.loop-m-smaller
loop-m-smaller c =
    let loop = c.loop-m in
    less-ahead (length c.args.s.now) loop.m c.next_member-m.result c.in-At.q c.in-At.a c.skip_value-e.result c.in-At.is loop.invariant.0 c.skip_value-e.ensures.lower_bound.0 c.next_member-m.ensures.member_in

pub loop-m-preserved : goal.loop-m-preserved
loop-m-preserved c =
    let loop = c.loop-m in
    let a = c.args in
    let q = c.equals in
    ((c.skip_value-e.result, c.next_member-m.ensures.member_in), seeking-on a.depth a.s.now a.at a.name.now loop.m loop.invariant.1 c.in-At.q c.in-At.a c.in-At.is q.result q.ensures c.if-equals.false c.skip_value-e.result (c.skip_value-e.ensures.skips a.depth) c.next_member-m.result c.next_member-m.ensures.next_of)
