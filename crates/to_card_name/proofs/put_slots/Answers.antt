use mathlib.Core.Path.{refl}
use Rattle.to_card_name.proofs.Members.{answer-is}
use Rattle.to_card_pen.proofs.Refusal.{refused}
use Rattle.to_card_name.proofs.Whole.{slots-other, slots-neither, slots-ordered, slots-full, slots-absent, slots_at}
use Rattle.to_card_name.proofs.put_slots.Goals as goal

pub returns-then-other-ne0 : goal.returns-then-other-ne0
returns-then-other-ne0 c =
    let args = c.args in
    record { lines_in = tt; out_len_unchanged = refl; puts_slots = slots-other args.s.now args.full args.components args.ordered args.other args.out.now c.if-other-ne0.true _ }

pub returns-then-full-components : goal.returns-then-full-components
returns-then-full-components c =
    let args = c.args in
    record {
      lines_in = tt;
      out_len_unchanged = refl;
      puts_slots = slots-neither args.s.now args.full args.components args.ordered args.other args.out.now c.if-full-components.true _;
    }

pub returns-then-not-is_unordered : goal.returns-then-not-is_unordered
returns-then-not-is_unordered c =
    let args = c.args in
    let is-unordered = c.is_unordered in record {
      lines_in = tt;
      out_len_unchanged = refl;
      puts_slots = slots-ordered args.s.now args.full args.components args.ordered args.other args.out.now is-unordered.result is-unordered.ensures c.if-not-is_unordered.true _;
    }

pub returns-in_err-full_in : goal.returns-in_err-full_in
returns-in_err-full_in c =
    let e = refused c.from_residual.result c.from_residual.ensures.0 in
    let args = c.args in
    let full-in = c.full_in in record {
      lines_in = rw e tt;
      out_len_unchanged = refl;
      puts_slots = rw e (slots-full args.s.now args.full args.components args.ordered args.other args.out.now full-in.result full-in.ensures c.in_err-full_in.was _);
    }

pub returns-in-None : goal.returns-in-None
returns-in-None c =
    let args = c.args in
    let if1 = c.if-other-ne0 in
    let if2 = c.if-full-components in
    let is-unordered = c.is_unordered in
    let full-in = c.full_in in
    record {
      lines_in = c.put_list.ensures.lines_in;
      out_len_unchanged = c.put_list.ensures.out_len_unchanged;
      puts_slots = slots-absent args.s.now args.full args.components args.ordered args.other args.out.now
          full-in.result full-in.ensures if1.false if2.false is-unordered.result is-unordered.ensures c.if-not-is_unordered.false c.put_list.result _ (answer-is c.in_ok-full_in.was c.in-None.is) c.put_list.ensures.puts_list;
    }

pub returns-in-Some : goal.returns-in-Some
returns-in-Some c =
    let args = c.args in
    let if1 = c.if-other-ne0 in
    let if2 = c.if-full-components in
    let is-unordered = c.is_unordered in
    let full-in = c.full_in in
    record {
      lines_in = c.put_list-in-Some.ensures.lines_in;
      out_len_unchanged = c.put_list-in-Some.ensures.out_len_unchanged;
      puts_slots = slots_at args.s.now args.full args.components args.ordered args.other args.out.now
          full-in.result full-in.ensures if1.false if2.false is-unordered.result is-unordered.ensures c.if-not-is_unordered.false c.put_list-in-Some.result _ _ (answer-is c.in_ok-full_in.was c.in-Some.is) c.put_list-in-Some.ensures.puts_list;
    }
