use native.Mathlib.Omega.{arith}
use Rattle.to_json_entry.proofs.Slots.{kind-title, kind-role, kind-none}
use Rattle.to_json_entry.proofs.kind_of_line.Goals as goal

pub bounds-t-2 : goal.bounds-t-2
bounds-t-2 c = omega (arith, c.requires.wide)

pub bounds-t-3 : goal.bounds-t-3
bounds-t-3 c = omega (arith, c.requires.wide)

pub slice_bounds-is_named-count : goal.slice_bounds-is_named-count
slice_bounds-is_named-count c = let v = c.requires.name in omega (arith, v.ordered, v.within)

pub slice_bounds-is_named-start : goal.slice_bounds-is_named-start
slice_bounds-is_named-start c = let v = c.requires.name in omega (arith, v.ordered, v.within)

pub slice_bounds-is_named-end : goal.slice_bounds-is_named-end
slice_bounds-is_named-end c = let v = c.requires.name in omega (arith, v.ordered, v.within)

pub returns-then-is_named : goal.returns-then-is_named
returns-then-is_named c = kind-title c.args.s.now c.args.t.now _ c.is_named.ensures c.if-is_named.true

pub slice_bounds-is_named-count-2 : goal.slice_bounds-is_named-count-2
slice_bounds-is_named-count-2 c = let v = c.requires.name in omega (arith, v.ordered, v.within)

pub slice_bounds-is_named-start-2 : goal.slice_bounds-is_named-start-2
slice_bounds-is_named-start-2 c = let v = c.requires.name in omega (arith, v.ordered, v.within)

pub slice_bounds-is_named-end-3 : goal.slice_bounds-is_named-end-3
slice_bounds-is_named-end-3 c = let v = c.requires.name in omega (arith, v.ordered, v.within)

pub returns-then-is_named-2 : goal.returns-then-is_named-2
returns-then-is_named-2 c =
    kind-role c.args.s.now c.args.t.now _ _ c.is_named.ensures c.if-is_named.false c.is_named-2.ensures c.if-is_named-2.true

pub returns : goal.returns
returns c =
    kind-none c.args.s.now c.args.t.now _ _ c.is_named.ensures c.if-is_named.false c.is_named-2.ensures c.if-is_named-2.false
