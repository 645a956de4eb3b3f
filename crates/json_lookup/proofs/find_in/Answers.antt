use native.Mathlib.Omega.{arith}
use lib.ListN.{length}
use Rattle.json_walk.proofs.Laws.{in-text, less-ahead, is-over}
use Rattle.json_lookup.proofs.Laws.{seeking-first, found_here, seeking-on, not_found}
use Rattle.json_lookup.proofs.find_in.Goals as goal

pub loop-m-init : goal.loop-m-init
loop-m-init c =
    let a = c.args in
    ((0, c.first_member-m.ensures.member_in), seeking-first a.s.now a.name.now c.first_member-m.result c.first_member-m.ensures.first_reads)

pub returns-in_default : goal.returns-in_default
returns-in_default c =
    let a = c.args in
    record {
      bounds = record { ordered = omega arith; inside = omega arith };
      finds_in = not_found a.s.now a.name.now c.loop-m.m (is-over c.loop-m.m c.in_default.not-At) c.loop-m.invariant.1;
    }

pub returns-then-equals : goal.returns-then-equals
returns-then-equals c =
    let a = c.args in
    let q = c.equals in
    let l = c.skip_value-e.ensures.lower_bound.0 (in-text (length a.s.now) c.loop-m.m c.in-At.q c.in-At.a c.in-At.is c.loop-m.invariant.0).1 in record {
      bounds = record { ordered = l; inside = c.skip_value-e.ensures.lower_bound.1 };
      finds_in = found_here a.s.now a.name.now c.loop-m.m c.loop-m.invariant.1 c.in-At.q c.in-At.a c.in-At.is q.result q.ensures c.skip_value-e.result (c.skip_value-e.ensures.skips 15) c.if-equals.true l c.skip_value-e.ensures.lower_bound.1;
    }

pub loop-m-smaller : goal.loop-m-smaller
loop-m-smaller c =
    let loop = c.loop-m in
    less-ahead (length c.args.s.now) loop.m c.next_member-m.result c.in-At.q c.in-At.a c.skip_value-e.result c.in-At.is loop.invariant.0 c.skip_value-e.ensures.lower_bound.0 c.next_member-m.ensures.member_in

pub loop-m-preserved : goal.loop-m-preserved
loop-m-preserved c =
    let loop = c.loop-m in
    let a = c.args in
    let q = c.equals in (
      (c.skip_value-e.result, c.next_member-m.ensures.member_in),
      seeking-on a.s.now a.name.now loop.m loop.invariant.1 c.in-At.q c.in-At.a c.in-At.is q.result q.ensures c.skip_value-e.result (c.skip_value-e.ensures.skips 15) c.if-equals.false c.skip_value-e.ensures.lower_bound.1 c.next_member-m.result c.next_member-m.ensures.next_reads,
    )
