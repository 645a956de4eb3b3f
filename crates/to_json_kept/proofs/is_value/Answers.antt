use native.Mathlib.Omega.{arith}
use Rattle.to_json_kept.proofs.is_value.Goals as goal

pub overflow_mul-i : goal.overflow_mul-i
overflow_mul-i c = omega (arith, c.requires.0.wide, c.requires.0.few, c.requires.1)

pub overflow_add-i : goal.overflow_add-i
overflow_add-i c = omega (arith, c.requires.0.wide, c.requires.0.few, c.requires.1)

pub offset_bounds-t-i : goal.offset_bounds-t-i
offset_bounds-t-i c = omega (arith, c.requires.0.wide, c.requires.0.few, c.requires.1)

pub bounds-t-i : goal.bounds-t-i
bounds-t-i c = omega (arith, c.requires.0.wide, c.requires.0.few, c.requires.1)

pub overflow_add-b : goal.overflow_add-b
overflow_add-b c = omega (arith, c.requires.0.wide, c.requires.0.few, c.requires.1)

pub offset_bounds-t-i-2 : goal.offset_bounds-t-i-2
offset_bounds-t-i-2 c = omega (arith, c.requires.0.wide, c.requires.0.few, c.requires.1)

pub bounds-t-i-2 : goal.bounds-t-i-2
bounds-t-i-2 c = omega (arith, c.requires.0.wide, c.requires.0.few, c.requires.1)

pub slice_bounds-is_named-count : goal.slice_bounds-is_named-count
slice_bounds-is_named-count c = let v = c.requires.0.rows.name c.args.k c.requires.1 in omega (arith, v.ordered, v.within)

pub slice_bounds-is_named-start : goal.slice_bounds-is_named-start
slice_bounds-is_named-start c = let v = c.requires.0.rows.name c.args.k c.requires.1 in omega (arith, v.ordered, v.within)

pub slice_bounds-is_named-end : goal.slice_bounds-is_named-end
slice_bounds-is_named-end c = let v = c.requires.0.rows.name c.args.k c.requires.1 in omega (arith, v.ordered, v.within)

pub returns : goal.returns
returns c = c.is_named.ensures
