use mathlib.Core.Path.{◌∙◌}
use Rattle.to_card_pen.proofs.Refusal.{refused}
use Prim.Native.Nat.{◌≤◌}
use native.Mathlib.Omega.{arith}
use lib.ListN.{length}
use Rattle.to_card_lines.proofs.Laws.{part_length, part_in}
use Rattle.to_card_kept.proofs.Entry.{lent-as}
use Rattle.to_card_kept.proofs.Runs.{ended-in, more_within, all-within, ended-puts, more-puts}
use Rattle.to_card_kept.proofs.put_from.Goals as goal

pub put_run-requires : goal.put_run-requires
put_run-requires c =
    record { lent = c.requires.lent; indexes = λ l. absurd (omega (arith, l)); at_in_bounds = c.requires.at_in_bounds }

pub slice_bounds-put_noted-count : goal.slice_bounds-put_noted-count
slice_bounds-put_noted-count c =
    let args = c.args in
    let v = more_within (length args.out.now) (length args.s.now) 16 c.put_run.ensures.run_in _ _ _ _ c.in-More.is in
    omega (arith, v.0, c.put_run.ensures.out_len_unchanged)

pub slice_bounds-put_noted-start : goal.slice_bounds-put_noted-start
slice_bounds-put_noted-start c =
    let args = c.args in
    let v = more_within (length args.out.now) (length args.s.now) 16 c.put_run.ensures.run_in _ _ _ _ c.in-More.is in
    omega (arith, v.0, c.put_run.ensures.out_len_unchanged)

pub put_noted-requires : goal.put_noted-requires
put_noted-requires c =
    let args = c.args in
    let v = more_within (length args.out.now) (length args.s.now) 16 c.put_run.ensures.run_in _ _ _ _ c.in-More.is in
    record { lent = record { all = lent-as c.requires.lent.all c.put_run.auto.b c.put_run.auto.t c.put_run.auto.scratch; index = c.requires.lent.index }; at_in_bounds = v.2 }

pub returns-in_err-noted-in-More : goal.returns-in_err-noted-in-More
returns-in_err-noted-in-More c =
    let args = c.args in
    let e = refused c.from_residual.result c.from_residual.ensures.0 in
    let v = more_within (length args.out.now) (length args.s.now) 16 c.put_run.ensures.run_in _ _ _ _ c.in-More.is in
    let i : c.in-More.n ≤ length c.put_run.new.out = omega (arith, v.0, c.put_run.ensures.out_len_unchanged) in record {
      lines_in = rw e tt;
      out_len_unchanged = part_length c.in-More.n c.put_run.new.out c.put_noted.new.out i c.put_noted.ensures.out_len_unchanged ∙ c.put_run.ensures.out_len_unchanged;
      puts_from = rw e (more-puts args.s.now args.slots.now args.at args.full args.parts args.out.now c.put_run.result c.put_run.new.out
          c.put_run.ensures.puts_run _ _ _ _ c.in-More.is c.put_noted.result c.put_noted.new.out c.put_noted.ensures.puts_from _
          c.in_err-noted-in-More.was);
    }

pub overflow_add-result : goal.overflow_add-result
overflow_add-result c =
    let args = c.args in
    let good = c.well_formed in
    let v = more_within (length args.out.now) (length args.s.now) 16 c.put_run.ensures.run_in _ _ _ _ c.in-More.is in
    let i : c.in-More.n ≤ length c.put_run.new.out = omega (arith, v.0, c.put_run.ensures.out_len_unchanged) in
    let w = all-within _ _ _ _ _ c.put_noted.ensures.lines_within c.in_ok-noted-in-More.was in
    record { fits = omega (arith, part_in c.in-More.n c.put_run.new.out i w.0, c.put_run.ensures.out_len_unchanged, good.0.0) }

pub overflow_add-result-in-More : goal.overflow_add-result-in-More
overflow_add-result-in-More c =
    let args = c.args in
    let v = more_within (length args.out.now) (length args.s.now) 16 c.put_run.ensures.run_in _ _ _ _ c.in-More.is in
    let w = all-within _ _ _ _ _ c.put_noted.ensures.lines_within c.in_ok-noted-in-More.was in
    record { fits = omega (arith, v.1, v.2, w.1, c.requires.lent.all.small) }

pub returns-in-Ended : goal.returns-in-Ended
returns-in-Ended c =
    let args = c.args in
    record {
      lines_in = ended-in (length args.out.now) (length args.s.now) 16 c.put_run.ensures.run_in _ c.in-Ended.is;
      out_len_unchanged = c.put_run.ensures.out_len_unchanged;
      puts_from = ended-puts args.s.now args.slots.now args.at args.full args.parts args.out.now c.put_run.result _
          c.put_run.ensures.puts_run _ c.in-Ended.is;
    }

pub returns-in_ok-noted-in-More : goal.returns-in_ok-noted-in-More
returns-in_ok-noted-in-More c =
    let args = c.args in
    let v = more_within (length args.out.now) (length args.s.now) 16 c.put_run.ensures.run_in _ _ _ _ c.in-More.is in
    let i : c.in-More.n ≤ length c.put_run.new.out = omega (arith, v.0, c.put_run.ensures.out_len_unchanged) in
    let w = all-within _ _ _ _ _ c.put_noted.ensures.lines_within c.in_ok-noted-in-More.was in record {
      lines_in = omega (arith, part_in c.in-More.n c.put_run.new.out i w.0, c.put_run.ensures.out_len_unchanged);
      out_len_unchanged = part_length c.in-More.n c.put_run.new.out c.put_noted.new.out i c.put_noted.ensures.out_len_unchanged ∙ c.put_run.ensures.out_len_unchanged;
      puts_from = more-puts args.s.now args.slots.now args.at args.full args.parts args.out.now c.put_run.result c.put_run.new.out
          c.put_run.ensures.puts_run _ _ _ _ c.in-More.is c.put_noted.result c.put_noted.new.out c.put_noted.ensures.puts_from _
          c.in_ok-noted-in-More.was;
    }
