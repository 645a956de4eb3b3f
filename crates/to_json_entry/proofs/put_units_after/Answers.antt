use native.Mathlib.Omega.{arith}
use Rattle.output.proofs.Laws.{puts-as, start, done}
use Rattle.to_json_entry.proofs.Org.{after_none, rest-readable, rest-units}
use Rattle.to_json_entry.proofs.put_units_after.Goals as goal

pub returns-then-e-v : goal.returns-then-e-v
returns-then-e-v c = puts-as (after_none c.args.k c.args.v.now c.args.e (omega (arith, c.if-e-v.true))) (done (start _))

pub overflow_add-a : goal.overflow_add-a
overflow_add-a c = omega (arith, c.if-e-v.false, c.well_formed.1.0)

pub slice_bounds-put_units-count : goal.slice_bounds-put_units-count
slice_bounds-put_units-count c = omega (arith, c.if-e-v.false, c.well_formed.1.0)

pub slice_bounds-put_units-start : goal.slice_bounds-put_units-start
slice_bounds-put_units-start c = omega (arith, c.if-e-v.false, c.well_formed.1.0)

pub slice_bounds-put_units-end : goal.slice_bounds-put_units-end
slice_bounds-put_units-end c = omega (arith, c.if-e-v.false, c.well_formed.1.0)

pub put_units-requires : goal.put_units-requires
put_units-requires c = rest-readable c.args.v.now c.args.e c.requires.1 c.requires.0 (omega (arith, c.if-e-v.false))

pub returns : goal.returns
returns c = puts-as (rest-units c.args.k c.args.v.now c.args.e (omega (arith, c.if-e-v.false))) c.put_units.ensures
