use native.Mathlib.Omega.{arith}
use mathlib.Core.Path.{refl, ◌∙◌}
use Prim.Native.Nat.{◌-◌}
use Rattle.text.proofs.Places.{turn-as}
use Rattle.to_card_kept_entry.proofs.strings.Values.{rows_in, going-first, from_wrong, from_on, from_all}
use Rattle.to_card_kept_entry.proofs.strings.put_elements.Goals as goal

pub loop-added-init : goal.loop-added-init
loop-added-init c =
    let args = c.args in (
      c.requires.at_in_bounds,
      c.requires.n_in_bounds,
      refl,
      refl,
      omega arith,
      going-first args.b.now args.n args.t.now args.m args.a args.e args.s.now args.at c.requires.n_in_bounds,
    )

pub put_value-requires : goal.put_value-requires
put_value-requires c = record { n_in_bounds = c.loop-added.invariant.1; table_length_in_bounds = omega (arith, c.loop-added.invariant.3, c.requires.table_length_in_bounds) }

pub shape_of-b-in_err-added : goal.shape_of-b-in_err-added
shape_of-b-in_err-added c = c.put_value.ensures.bounds.long ∙ c.loop-added.invariant.2

pub shape_of-t-in_err-added : goal.shape_of-t-in_err-added
shape_of-t-in_err-added c = c.put_value.ensures.bounds.wide ∙ c.loop-added.invariant.3

pub returns-in_err-added-clause-adds_from : goal.returns-in_err-added-clause-adds_from
returns-in_err-added-clause-adds_from c =
    let args = c.args in
    let loop = c.loop-added in
    rw c.from_residual.ensures (from_wrong args.b.now args.n args.t.now args.m args.a args.e args.s.now args.at loop.i loop.k
    loop.rows loop.b loop.t loop.invariant.5 c.element_at-p.result c.element_at-p.ensures.tells_element c.put_value.result _ _
    c.put_value.ensures.adds_value c.in_err-added.was _ _)

pub separator-requires : goal.separator-requires
separator-requires c = record { at_in_bounds = c.element_at-p.ensures.inside.end-in; close_bound = omega arith }

pub loop-added-smaller : goal.loop-added-smaller
loop-added-smaller c =
    let loop = c.loop-added in
    let separator = c.separator in
    let h = turn-as separator.ensures c.in-Continue.is in omega
    (arith, h.within.0, h.within.1, c.element_at-p.ensures.inside.from loop.invariant.0, c.element_at-p.ensures.inside.ordered)

pub loop-added-preserved : goal.loop-added-preserved
loop-added-preserved c =
    let args = c.args in
    let loop = c.loop-added in
    let separator = c.separator in
    let h = turn-as separator.ensures c.in-Continue.is in let g = rows_in c.put_value.ensures.rows_in c.in_ok-added.was in (
      h.within.1,
      omega (arith, g.1, c.put_value.ensures.bounds.long),
      c.put_value.ensures.bounds.long ∙ loop.invariant.2,
      c.put_value.ensures.bounds.wide ∙ loop.invariant.3,
      omega (arith, g.0, loop.invariant.4),
      from_on args.b.now args.n args.t.now args.m args.a args.e args.s.now args.at loop.i loop.k loop.rows
          loop.b loop.t loop.invariant.5 c.element_at-p.result c.element_at-p.ensures.tells_element c.put_value.result _ _ c.put_value.ensures.adds_value _ _
          c.in_ok-added.was _ h,
    )

pub shape_of-b-in-Break : goal.shape_of-b-in-Break
shape_of-b-in-Break c = c.put_value.ensures.bounds.long ∙ c.loop-added.invariant.2

pub shape_of-t-in-Break : goal.shape_of-t-in-Break
shape_of-t-in-Break c = c.put_value.ensures.bounds.wide ∙ c.loop-added.invariant.3

pub returns-in-Break : goal.returns-in-Break
returns-in-Break c =
    let args = c.args in
    let loop = c.loop-added in
    let separator = c.separator in
    let g = rows_in c.put_value.ensures.rows_in c.in_ok-added.was in record {
      bounds = record { long = c.put_value.ensures.bounds.long ∙ loop.invariant.2; wide = c.put_value.ensures.bounds.wide ∙ loop.invariant.3 };
      rows_in = (omega (arith, g.0, loop.invariant.4), omega (arith, g.1, loop.invariant.2), g.2);
      adds_from = from_all args.b.now args.n args.t.now args.m args.a args.e args.s.now args.at loop.i loop.k
          loop.rows loop.b loop.t loop.invariant.5 c.element_at-p.result c.element_at-p.ensures.tells_element c.put_value.result _ _
          c.put_value.ensures.adds_value _ _ c.in_ok-added.was _ (turn-as separator.ensures c.in-Break.is);
    }
