use native.Mathlib.Omega.{arith}
use Rattle.to_card_pen.proofs.Refusal.{refused}
use native.Mathlib.Nat.{le_refl}
use mathlib.Core.Path.{refl, ◌∙◌}
use Prim.Native.Nat.{◌-◌}
use Rattle.text.proofs.Places.{turn-as}
use Rattle.to_card_lines.proofs.Laws.{part_length, part_in, mid-length}
use Rattle.to_card_members.proofs.Loop.{going-first, puts-wrong, going_on, puts-all, one_in}
use Rattle.to_card_members.proofs.put_from.Goals as goal

pub loop-other-init : goal.loop-other-init
loop-other-init c = (c.requires.at_in_bounds, omega arith, refl, omega arith, refl, going-first c.args.s.now c.args.at c.args.out.now)

pub slice_bounds-put_other-count : goal.slice_bounds-put_other-count
slice_bounds-put_other-count c = c.loop-other.invariant.1

pub slice_bounds-put_other-start : goal.slice_bounds-put_other-start
slice_bounds-put_other-start c = c.loop-other.invariant.1

pub slice_bounds-put_other-end : goal.slice_bounds-put_other-end
slice_bounds-put_other-end c = le_refl _

pub put_other-requires : goal.put_other-requires
put_other-requires c =
    let loop = c.loop-other in
    record {
      a_le_e = c.member_at-m.ensures.inside.ordered;
      e_in_bounds = c.member_at-m.ensures.inside.end-in;
      out_in_bounds = omega (arith, loop.invariant.2, loop.invariant.4, c.requires.out_in_bounds, mid-length loop.n loop.out);
    }

pub shape_of-out-in_err-other : goal.shape_of-out-in_err-other
shape_of-out-in_err-other c =
    let loop = c.loop-other in
    part_length loop.n loop.out c.put_other.new.out loop.invariant.1 c.put_other.ensures.out_len_unchanged ∙ loop.invariant.2

pub shape_of-buffer-in_err-other : goal.shape_of-buffer-in_err-other
shape_of-buffer-in_err-other c = c.put_other.ensures.buffer_len_unchanged ∙ c.loop-other.invariant.4

pub returns-in_err-other : goal.returns-in_err-other
returns-in_err-other c =
    let args = c.args in
    let loop = c.loop-other in
    let e = refused c.from_residual.result c.from_residual.ensures.0 in
    record {
      lines_in = rw e tt;
      out_len_unchanged = part_length loop.n loop.out c.put_other.new.out loop.invariant.1 c.put_other.ensures.out_len_unchanged ∙ loop.invariant.2;
      puts_from = rw e (puts-wrong args.s.now args.at args.out.now loop.i loop.n loop.lines loop.ok loop.out loop.invariant.5 c.member_at-m.result
          c.member_at-m.ensures.inside c.member_at-m.ensures.tells_member c.put_other.result _ c.put_other.ensures.puts_other _ c.in_err-other.was);
    }

pub overflow_add-n : goal.overflow_add-n
overflow_add-n c =
    let good = c.well_formed in
    let loop = c.loop-other in
    record {
      fits = omega (
        arith,
        part_in loop.n loop.out loop.invariant.1 (one_in c.put_other.ensures.one_in c.in_ok-other.was).0,
        loop.invariant.2,
        good.0.0,
      );
    }

pub overflow_add-lines : goal.overflow_add-lines
overflow_add-lines c =
    let loop = c.loop-other in
    omega (arith, loop.invariant.3, loop.invariant.0, (one_in c.put_other.ensures.one_in c.in_ok-other.was).1)

pub separator-requires : goal.separator-requires
separator-requires c = record { at_in_bounds = c.member_at-m.ensures.inside.end-in; close_bound = omega arith }

pub loop-other-smaller : goal.loop-other-smaller
loop-other-smaller c =
    let loop = c.loop-other in
    let separator = c.separator in
    let h = turn-as separator.ensures c.in-Continue.is in omega
    (arith, h.within.0, h.within.1, c.member_at-m.ensures.inside.from loop.invariant.0, c.member_at-m.ensures.inside.ordered)

pub loop-other-preserved : goal.loop-other-preserved
loop-other-preserved c =
    let args = c.args in
    let loop = c.loop-other in
    let separator = c.separator in
    let h = turn-as separator.ensures c.in-Continue.is in let l = part_length loop.n loop.out c.put_other.new.out loop.invariant.1
    c.put_other.ensures.out_len_unchanged in (
      h.within.1,
      omega (arith, l, part_in loop.n loop.out loop.invariant.1 (one_in c.put_other.ensures.one_in c.in_ok-other.was).0),
      l ∙ loop.invariant.2,
      omega (arith, loop.invariant.3, h.within.0, c.member_at-m.ensures.inside.from loop.invariant.0, c.member_at-m.ensures.inside.ordered, (one_in c.put_other.ensures.one_in c.in_ok-other.was).1),
      c.put_other.ensures.buffer_len_unchanged ∙ loop.invariant.4,
      going_on args.s.now args.at args.out.now loop.i loop.n loop.lines loop.ok loop.out loop.invariant.5 c.member_at-m.result c.member_at-m.ensures.inside c.member_at-m.ensures.tells_member c.put_other.result _ c.put_other.ensures.puts_other _ _ _ c.in_ok-other.was _ h,
    )

pub shape_of-out-in-Break : goal.shape_of-out-in-Break
shape_of-out-in-Break c =
    let loop = c.loop-other in
    part_length loop.n loop.out c.put_other.new.out loop.invariant.1 c.put_other.ensures.out_len_unchanged ∙ loop.invariant.2

pub shape_of-buffer-in-Break : goal.shape_of-buffer-in-Break
shape_of-buffer-in-Break c = c.put_other.ensures.buffer_len_unchanged ∙ c.loop-other.invariant.4

pub returns-in-Break : goal.returns-in-Break
returns-in-Break c =
    let args = c.args in
    let loop = c.loop-other in
    let separator = c.separator in record {
      lines_in = omega (arith, part_in loop.n loop.out loop.invariant.1 (one_in c.put_other.ensures.one_in c.in_ok-other.was).0, loop.invariant.2);
      out_len_unchanged = part_length loop.n loop.out c.put_other.new.out loop.invariant.1 c.put_other.ensures.out_len_unchanged ∙ loop.invariant.2;
      puts_from = puts-all args.s.now args.at args.out.now loop.i loop.n loop.lines loop.ok loop.out loop.invariant.5 c.member_at-m.result
          c.member_at-m.ensures.inside c.member_at-m.ensures.tells_member c.put_other.result _ c.put_other.ensures.puts_other _ _ _ c.in_ok-other.was _
          (turn-as separator.ensures c.in-Break.is);
    }
