use native.Mathlib.Omega.{arith}
use Rattle.output.proofs.Laws.{puts-as}
use Rattle.to_json_kept.proofs.Whole.{type-none, type-some}
use Rattle.to_json_kept.proofs.put_type.Goals as goal

pub value_row-k-requires : goal.value_row-k-requires
value_row-k-requires c = c.requires

pub bounds-t-6 : goal.bounds-t-6
bounds-t-6 c = omega (arith, c.requires.wide)

pub returns-then-k-t : goal.returns-then-k-t
returns-then-k-t c =
    puts-as (type-none c.args.s.now c.args.t.now c.value_row-k.result c.value_row-k.ensures (omega (arith, c.if-k-t.true))) c.put_text.ensures

pub overflow_mul-i : goal.overflow_mul-i
overflow_mul-i c = omega (arith, c.requires.wide, c.requires.few, c.if-k-t.false)

pub overflow_add-i : goal.overflow_add-i
overflow_add-i c = omega (arith, c.requires.wide, c.requires.few, c.if-k-t.false)

pub overflow_add-a : goal.overflow_add-a
overflow_add-a c = omega (arith, c.requires.wide, c.requires.few, c.if-k-t.false)

pub offset_bounds-t-i : goal.offset_bounds-t-i
offset_bounds-t-i c = omega (arith, c.requires.wide, c.requires.few, c.if-k-t.false)

pub bounds-t-i : goal.bounds-t-i
bounds-t-i c = omega (arith, c.requires.wide, c.requires.few, c.if-k-t.false)

pub overflow_add-b : goal.overflow_add-b
overflow_add-b c = omega (arith, c.requires.wide, c.requires.few, c.if-k-t.false)

pub offset_bounds-t-i-2 : goal.offset_bounds-t-i-2
offset_bounds-t-i-2 c = omega (arith, c.requires.wide, c.requires.few, c.if-k-t.false)

pub bounds-t-i-2 : goal.bounds-t-i-2
bounds-t-i-2 c = omega (arith, c.requires.wide, c.requires.few, c.if-k-t.false)

pub slice_bounds-put_lower-count : goal.slice_bounds-put_lower-count
slice_bounds-put_lower-count c = let v = c.requires.rows.value c.value_row-k.result (omega (arith, c.if-k-t.false)) in omega (arith, v.ordered, v.within)

pub slice_bounds-put_lower-start : goal.slice_bounds-put_lower-start
slice_bounds-put_lower-start c = let v = c.requires.rows.value c.value_row-k.result (omega (arith, c.if-k-t.false)) in omega (arith, v.ordered, v.within)

pub slice_bounds-put_lower-end : goal.slice_bounds-put_lower-end
slice_bounds-put_lower-end c = let v = c.requires.rows.value c.value_row-k.result (omega (arith, c.if-k-t.false)) in omega (arith, v.ordered, v.within)

pub returns : goal.returns
returns c =
    puts-as (type-some c.args.s.now c.args.t.now c.value_row-k.result c.value_row-k.ensures (omega (arith, c.if-k-t.false))) c.put_lower.ensures
