use native.Mathlib.Omega.{arith}
use Rattle.to_card_pen.proofs.Refusal.{refused}
use Rattle.to_card_name.proofs.Members.{list-absent, list-past, list-wrong, list-empty, list-bad, list_at, array-in, answer-is}
use Rattle.to_card_name.proofs.list_components.Goals as goal

pub returns-then-slot-eq0 : goal.returns-then-slot-eq0
returns-then-slot-eq0 c =
    let args = c.args in
    record { listed_in = tt; lists_as = list-absent args.s.now args.slot args.marks.now c.if-slot-eq0.true }

pub returns-then-slot-s : goal.returns-then-slot-s
returns-then-slot-s c =
    let args = c.args in
    record { listed_in = tt; lists_as = list-past args.s.now args.slot args.marks.now c.if-slot-eq0.false c.if-slot-s.true }

pub open_array-requires : goal.open_array-requires
open_array-requires c = omega (arith, c.if-slot-s.false)

pub list_rows-n-requires : goal.list_rows-n-requires
list_rows-n-requires c =
    record {
      at_in_bounds = array-in c.open_array.result c.open_array.ensures.array_in (answer-is c.in_ok-j.was c.in-Some.is);
      part_count_in_bounds = c.requires.part_count_in_bounds;
      clear = c.requires.clear;
      in_bounds = c.requires.in_bounds;
      in_bounds_2 = c.requires.in_bounds_2;
    }

pub returns-then-n-eq0 : goal.returns-then-n-eq0
returns-then-n-eq0 c =
    let args = c.args in
    let if1 = c.if-slot-eq0 in
    record {
      listed_in = tt;
      lists_as = list-bad args.s.now args.slot _ if1.false c.open_array.result c.open_array.ensures.opens_as _ (answer-is c.in_ok-j.was c.in-Some.is) c.list_rows-n.result c.list_rows-n.ensures.checks_from c.if-n-eq0.true;
    }

pub returns-in_err-j : goal.returns-in_err-j
returns-in_err-j c =
    let args = c.args in
    let if1 = c.if-slot-eq0 in
    let e = refused c.from_residual.result c.from_residual.ensures.0 in
    record {
      listed_in = rw e tt;
      lists_as = rw e (list-wrong args.s.now args.slot args.marks.now if1.false c.open_array.result c.open_array.ensures.opens_as c.in_err-j.was);
    }

pub returns-in_default : goal.returns-in_default
returns-in_default c =
    let args = c.args in
    let if1 = c.if-slot-eq0 in
    record { listed_in = tt; lists_as = list-empty args.s.now args.slot args.marks.now if1.false c.open_array.result c.open_array.ensures.opens_as (answer-is c.in_ok-j.was c.in_default.is) }

pub returns : goal.returns
returns c =
    let args = c.args in
    let if1 = c.if-slot-eq0 in
    record {
      listed_in = (array-in c.open_array.result c.open_array.ensures.array_in (answer-is c.in_ok-j.was c.in-Some.is), c.list_rows-n.ensures.rows_from);
      lists_as = list_at args.s.now args.slot _ if1.false c.open_array.result c.open_array.ensures.opens_as _ (answer-is c.in_ok-j.was c.in-Some.is) c.list_rows-n.result c.list_rows-n.ensures.checks_from c.if-n-eq0.false;
    }
