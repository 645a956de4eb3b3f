use native.Mathlib.Omega.{arith}
use mathlib.Core.Path.{refl, sym, ◌∙◌}
use Rattle.to_card_kept_entry.proofs.strings.Values.{rows_in}
use Rattle.to_card_kept_entry.proofs.table.Params.{to_in}
use Rattle.to_card_kept_entry.proofs.table.Members.{member-again, member-nogroup, member-group, member-wrong, member-param}
use Rattle.to_card_kept_entry.proofs.table.put_member.Goals as goal

pub returns-then-to-ne0 : goal.returns-then-to-ne0
returns-then-to-ne0 c =
    let args = c.args in record {
      bounds = record { long = refl; wide = refl };
      step_in = tt;
      puts_member = member-again args.b.now args.t.now args.f args.s.now args.q args.at (sym c.equals.ensures ∙ c.if-equals.true) c.if-to-ne0.true;
    }

pub returns-in_err-k-clause-puts_member : goal.returns-in_err-k-clause-puts_member
returns-in_err-k-clause-puts_member c =
    let args = c.args in
    let equals = c.equals in
    let if1 = c.if-equals in
    let if2 = c.if-to-ne0 in
    rw c.from_residual.ensures (member-nogroup args.b.now args.t.now args.f args.s.now args.q args.at (sym equals.ensures ∙ if1.true) if2.false c.put_group.result _ c.put_group.ensures.puts_group c.in_err-k.was)

pub returns-then-equals : goal.returns-then-equals
returns-then-equals c =
    let args = c.args in
    let equals = c.equals in
    let if1 = c.if-equals in
    let if2 = c.if-to-ne0 in
    let g = to_in c.put_group.ensures.within c.in_ok-k.was in record {
      bounds = record { long = c.put_group.ensures.b_len_unchanged; wide = refl };
      step_in = (g.0, g.1, c.requires.rows_bound, omega arith);
      puts_member = member-group args.b.now args.t.now args.f args.s.now args.q args.at (sym equals.ensures ∙ if1.true) if2.false c.put_group.result _ c.put_group.ensures.puts_group c.requires.end_in_bounds _ c.in_ok-k.was;
    }

pub returns-in_err-p-clause-puts_member : goal.returns-in_err-p-clause-puts_member
returns-in_err-p-clause-puts_member c =
    let args = c.args in
    let equals = c.equals in
    let if1 = c.if-equals in
    rw c.from_residual-in_err-p.ensures (member-wrong args.b.now args.t.now args.f args.s.now args.q args.at (sym equals.ensures ∙ if1.false) c.put_param.result _ _ c.put_param.ensures.puts_param c.in_err-p.was)

pub returns : goal.returns
returns c =
    let args = c.args in
    let equals = c.equals in
    let if1 = c.if-equals in
    let g = rows_in c.put_param.ensures.rows_in c.in_ok-p.was in record {
      bounds = c.put_param.ensures.bounds;
      step_in = (g.0, g.1, g.2, omega arith);
      puts_member = member-param args.b.now args.t.now args.f args.s.now args.q args.at (sym equals.ensures ∙ if1.false) c.put_param.result _ _ c.put_param.ensures.puts_param c.requires.end_in_bounds _ _ c.in_ok-p.was;
    }
