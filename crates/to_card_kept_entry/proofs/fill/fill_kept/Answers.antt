use native.Mathlib.Omega.{arith}
use mathlib.Core.Path.{refl, ◌∙◌}
use Rattle.to_card_kept_entry.proofs.table.Params.{to_in}
use Rattle.to_card_kept_entry.proofs.table.Members.{step_in}
use Rattle.to_card_kept_entry.proofs.fill.Fill.{four-in, fills-as, fill-other, fill-nameless, fill-unparamed, fill-rest}
use Rattle.to_card_kept_entry.proofs.fill.fill_kept.Goals as goal

pub returns-in_err-four-clause-fills_kept : goal.returns-in_err-four-clause-fills_kept
returns-in_err-four-clause-fills_kept c =
    let a = c.args in
    rw c.from_residual.ensures (fill-other a.b.now a.s.now a.at c.four_at.result c.four_at.ensures.tells_four c.in_err-four.was _)

pub returns-in_err-e-clause-fills_kept : goal.returns-in_err-e-clause-fills_kept
returns-in_err-e-clause-fills_kept c =
    let a = c.args in
    rw c.from_residual-in_err-e.ensures (fill-nameless a.s.now a.at c.four_at.result c.four_at.ensures.tells_four _ _ _ _ _ c.in_ok-four.was a.b.now c.put_name.result _ c.put_name.ensures.puts_name c.in_err-e.was _)

pub put_object-requires : goal.put_object-requires
put_object-requires c =
    let g = to_in c.put_name.ensures.within c.in_ok-e.was in
    let f = four-in c.args.s.now c.args.at c.four_at.ensures.four_in c.in_ok-four.was in
    record { n_in_bounds = omega (arith, g.1, c.put_name.ensures.b_len_unchanged); table_length_in_bounds = c.requires.table_length_in_bounds; at_in_bounds = f.1 }

pub returns-in_err-f-clause-fills_kept : goal.returns-in_err-f-clause-fills_kept
returns-in_err-f-clause-fills_kept c =
    let a = c.args in
    let none = fill-unparamed a.s.now a.at c.four_at.result c.four_at.ensures.tells_four _ _ _ _ _ c.in_ok-four.was a.b.now c.put_name.result _ c.put_name.ensures.puts_name _ c.in_ok-e.was c.put_object.result _ _ c.put_object.ensures.puts_object c.in_err-f.was in
    rw c.from_residual-in_err-f.ensures none

pub put_rest-requires : goal.put_rest-requires
put_rest-requires c =
    let r = c.requires.table_length_in_bounds in
    let h = step_in c.put_object.ensures.step_in c.in_ok-f.was in
    record {
      end_in_bounds = omega (arith, h.1, c.put_object.ensures.bounds.long);
      table_length_in_bounds = omega (arith, c.put_object.ensures.bounds.wide, r);
      rows_bound = h.2;
      e_le_end = h.0;
    }

pub returns-then-not-put_rest : goal.returns-then-not-put_rest
returns-then-not-put_rest c =
    let a = c.args in
    let whole = fill-rest a.s.now a.at c.four_at.result c.four_at.ensures.tells_four _ _ _ _ _ c.in_ok-four.was a.b.now c.put_name.result _ c.put_name.ensures.puts_name _ c.in_ok-e.was c.put_object.result _ _ c.put_object.ensures.puts_object _ c.in_ok-f.was c.put_rest.result _ _ c.put_rest.ensures.fills_rest in
    let done = fills-as a.b.now a.s.now a.at _ _ whole c.if-not-put_rest.true in
    record {
      bounds = record { long = c.put_rest.ensures.bounds.long ∙ c.put_object.ensures.bounds.long ∙ c.put_name.ensures.b_len_unchanged; wide = c.put_rest.ensures.bounds.wide ∙ c.put_object.ensures.bounds.wide };
      held_in = tt;
      fills_kept = done;
    }

pub returns : goal.returns
returns c =
    let a = c.args in
    let whole = fill-rest a.s.now a.at c.four_at.result c.four_at.ensures.tells_four _ _ _ _ _ c.in_ok-four.was a.b.now c.put_name.result _ c.put_name.ensures.puts_name _ c.in_ok-e.was c.put_object.result _ _ c.put_object.ensures.puts_object _ c.in_ok-f.was c.put_rest.result _ _ c.put_rest.ensures.fills_rest in
    let done = fills-as a.b.now a.s.now a.at _ _ whole c.if-not-put_rest.false in
    record {
      bounds = record { long = c.put_rest.ensures.bounds.long ∙ c.put_object.ensures.bounds.long ∙ c.put_name.ensures.b_len_unchanged; wide = c.put_rest.ensures.bounds.wide ∙ c.put_object.ensures.bounds.wide };
      held_in = (four-in a.s.now a.at c.four_at.ensures.four_in c.in_ok-four.was).4;
      fills_kept = done;
    }
