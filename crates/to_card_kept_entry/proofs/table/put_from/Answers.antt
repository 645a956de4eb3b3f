use native.Mathlib.Omega.{arith}
use mathlib.Core.Path.{refl, ◌∙◌}
use Prim.Native.Nat.{◌-◌}
use Rattle.text.proofs.Places.{turn-as}
use Rattle.to_card_kept_entry.proofs.table.Members.{step_in, going-first, from-bad, from_on, from_all}
use Rattle.to_card_kept_entry.proofs.table.put_from.Goals as goal

pub loop-g-init : goal.loop-g-init
loop-g-init c =
    let args = c.args in (
      c.requires.at_in_bounds,
      c.requires.n_in_bounds,
      refl,
      refl,
      omega arith,
      omega arith,
      omega arith,
      going-first args.b.now args.n args.t.now args.s.now args.at c.requires.n_in_bounds,
    )

pub put_member-requires : goal.put_member-requires
put_member-requires c =
    let loop = c.loop-g in
    record {
      end_in_bounds = loop.invariant.1;
      table_length_in_bounds = omega (arith, loop.invariant.3, c.requires.table_length_in_bounds);
      at_in_bounds = omega (arith, c.member_at-m.ensures.inside.ordered, c.member_at-m.ensures.inside.end-in);
      count_in_bounds = omega (arith, loop.invariant.6, loop.invariant.0);
      rows_bound = loop.invariant.5;
    }

pub shape_of-b-in_err-g : goal.shape_of-b-in_err-g
shape_of-b-in_err-g c = c.put_member.ensures.bounds.long ∙ c.loop-g.invariant.2

pub shape_of-t-in_err-g : goal.shape_of-t-in_err-g
shape_of-t-in_err-g c = c.put_member.ensures.bounds.wide ∙ c.loop-g.invariant.3

pub returns-in_err-g-clause-puts_from : goal.returns-in_err-g-clause-puts_from
returns-in_err-g-clause-puts_from c =
    let args = c.args in
    let loop = c.loop-g in
    rw c.from_residual.ensures (from-bad args.b.now args.n args.s.now args.at loop.i loop.f loop.b loop.t loop.invariant.7 c.member_at-m.result c.member_at-m.ensures.tells_member c.put_member.result _ _ c.put_member.ensures.puts_member c.in_err-g.was _ _)

pub separator-requires : goal.separator-requires
separator-requires c = record { at_in_bounds = c.member_at-m.ensures.inside.end-in; close_bound = omega arith }

pub loop-g-smaller : goal.loop-g-smaller
loop-g-smaller c =
    let loop = c.loop-g in
    let separator = c.separator in
    let h = turn-as separator.ensures c.in-Continue.is in omega
    (arith, h.within.0, h.within.1, c.member_at-m.ensures.inside.from loop.invariant.0, c.member_at-m.ensures.inside.ordered)

pub loop-g-preserved : goal.loop-g-preserved
loop-g-preserved c =
    let args = c.args in
    let loop = c.loop-g in
    let separator = c.separator in
    let h = turn-as separator.ensures c.in-Continue.is in let k = step_in c.put_member.ensures.step_in c.in_ok-g.was in (
      h.within.1,
      omega (arith, k.1, c.put_member.ensures.bounds.long),
      c.put_member.ensures.bounds.long ∙ loop.invariant.2,
      c.put_member.ensures.bounds.wide ∙ loop.invariant.3,
      omega (arith, k.0, loop.invariant.4),
      k.2,
      omega (arith, k.3, loop.invariant.6, h.within.0, c.member_at-m.ensures.inside.from loop.invariant.0, c.member_at-m.ensures.inside.ordered),
      from_on args.b.now args.n args.s.now args.at loop.i loop.f loop.b loop.t loop.invariant.7 c.member_at-m.result c.member_at-m.ensures.tells_member c.put_member.result _ _ c.put_member.ensures.puts_member _ c.in_ok-g.was _ h,
    )

pub shape_of-b-in-Break : goal.shape_of-b-in-Break
shape_of-b-in-Break c = c.put_member.ensures.bounds.long ∙ c.loop-g.invariant.2

pub shape_of-t-in-Break : goal.shape_of-t-in-Break
shape_of-t-in-Break c = c.put_member.ensures.bounds.wide ∙ c.loop-g.invariant.3

pub returns-in-Break : goal.returns-in-Break
returns-in-Break c =
    let args = c.args in
    let loop = c.loop-g in
    let separator = c.separator in
    let k = step_in c.put_member.ensures.step_in c.in_ok-g.was in record {
      bounds = record { long = c.put_member.ensures.bounds.long ∙ loop.invariant.2; wide = c.put_member.ensures.bounds.wide ∙ loop.invariant.3 };
      step_in = (omega (arith, k.0, loop.invariant.4), omega (arith, k.1, loop.invariant.2), k.2, omega (arith, k.3, loop.invariant.6, loop.invariant.0));
      puts_from = from_all args.b.now args.n args.s.now args.at loop.i loop.f loop.b loop.t loop.invariant.7 c.member_at-m.result
          c.member_at-m.ensures.tells_member c.put_member.result _ _ c.put_member.ensures.puts_member _ c.in_ok-g.was _
          (turn-as separator.ensures c.in-Break.is);
    }
