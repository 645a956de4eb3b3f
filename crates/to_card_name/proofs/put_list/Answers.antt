use native.Mathlib.Omega.{arith}
use Rattle.std.specs.Prelude.{Ok}
use Rattle.to_card_name.proofs.Members.{answer-is}
use Rattle.to_card_pen.proofs.Refusal.{refused}
use mathlib.Core.Path.{refl}
use Rattle.to_card_name.proofs.Whole.{clear-seven, listed_in, list-twelve, list-alone, list-both}
use Rattle.to_card_name.proofs.put_list.Goals as goal

pub list_components-requires : goal.list_components-requires
list_components-requires c = record { part_count_in_bounds = omega arith; clear = clear-seven; in_bounds = omega arith; in_bounds_2 = omega arith }

pub put_both-requires : goal.put_both-requires
put_both-requires c =
    let rows = listed_in c.list_components.result c.list_components.ensures.listed_in (answer-is c.in_ok-list_components.was c.in-Some.is) in
    record { at_in_bounds = rows.0; part_count_in_bounds = omega arith; in_bounds = omega arith; in_bounds_2 = omega arith; rows_from = rows.1 }

pub returns-in_err-list_components : goal.returns-in_err-list_components
returns-in_err-list_components c =
    let e = refused c.from_residual.result c.from_residual.ensures.0 in
    let args = c.args in
    record {
      lines_in = rw e tt;
      out_len_unchanged = refl;
      puts_list = rw e (list-twelve args.s.now args.full args.components args.out.now _ c.list_components.result c.list_components.ensures.lists_as c.in_err-list_components.was _);
    }

pub returns-in-None : goal.returns-in-None
returns-in-None c =
    let args = c.args in
    record {
      lines_in = c.put_alone.ensures.lines_in;
      out_len_unchanged = c.put_alone.ensures.out_len_unchanged;
      puts_list = list-alone args.s.now args.full args.components args.out.now _ c.list_components.result c.list_components.ensures.lists_as (answer-is c.in_ok-list_components.was c.in-None.is) (Ok c.put_alone.result) _ c.put_alone.ensures.puts_alone;
    }

pub returns-in-Some : goal.returns-in-Some
returns-in-Some c =
    let args = c.args in
    record {
      lines_in = c.put_both.ensures.lines_in;
      out_len_unchanged = c.put_both.ensures.out_len_unchanged;
      puts_list = list-both args.s.now args.full args.components args.out.now _ c.list_components.result c.list_components.ensures.lists_as _ _ (answer-is c.in_ok-list_components.was c.in-Some.is) (Ok c.put_both.result) _ c.put_both.ensures.puts_both;
    }
