use borrow.Author.Rules.{rules}
use native.Mathlib.Omega.{arith}
use Rattle.line_table.specs.Table.{Span}
use Rattle.line_table.proofs.Filling.{values-start, values-many, values-off, value-here, values-on, values-end}
use Rattle.line_table.proofs.fill_values.Goals as goal

pub loop-m-init : goal.loop-m-init
loop-m-init c =
    let args = c.args in
    values-start args.s.now args.at args.a args.e args.t.now args.n c.requires.1

pub shape_of-t-then-m-ge-VALUES : goal.shape_of-t-then-m-ge-VALUES
shape_of-t-then-m-ge-VALUES c = c.loop-m.invariant.long

pub returns-then-m-ge-VALUES : goal.returns-then-m-ge-VALUES
returns-then-m-ge-VALUES c = values-many c.loop-m.invariant (omega (arith, c.if-m-ge-VALUES.true))

pub value_at-requires : goal.value_at-requires
value_at-requires c = c.loop-m.invariant.reading.to

pub shape_of-t-in_err-value : goal.shape_of-t-in_err-value
shape_of-t-in_err-value c = c.loop-m.invariant.long

pub returns-in_err-value : goal.returns-in_err-value
returns-in_err-value c = rw c.from_residual.ensures (values-off c.loop-m.invariant c.value_at.ensures c.in_err-value.was)

pub put_row-m-requires : goal.put_row-m-requires
put_row-m-requires c =
    let loop = c.loop-m in
    (omega (arith, c.if-m-ge-VALUES.false), omega (arith, loop.invariant.long, c.requires.0))

pub look-requires : goal.look-requires
look-requires c =
    let loop = c.loop-m in
    let value-at = c.value_at in
    (value-here loop.invariant value-at.ensures c.in_ok-value.was).within

pub returns-then-look-ne-COMMA : goal.returns-then-look-ne-COMMA
returns-then-look-ne-COMMA c =
    let pre = c.requires in
    let if1 = c.if-m-ge-VALUES in
    let loop = c.loop-m in
    let value-at = c.value_at in
    let name : Span _ _ _ = record { ordered = pre.2; within = pre.3 } in
    values-end loop.invariant value-at.ensures c.in_ok-value.was (omega (arith, if1.false)) pre.0 name c.put_row-m.ensures c.look.ensures.0 c.if-look-ne-COMMA.true

pub overflow_add-i : goal.overflow_add-i
overflow_add-i c = omega (arith, c.look.ensures.1, c.if-look-ne-COMMA.false)

pub loop-m-smaller : goal.loop-m-smaller
loop-m-smaller c =
    let loop = c.loop-m in
    let value-at = c.value_at in
    let v = value-here loop.invariant value-at.ensures c.in_ok-value.was in
    omega (arith, c.look.ensures.1, c.if-look-ne-COMMA.false, v.from, v.ordered, v.before, v.within)

pub loop-m-preserved : goal.loop-m-preserved
loop-m-preserved c =
    let pre = c.requires in
    let if1 = c.if-m-ge-VALUES in
    let loop = c.loop-m in
    let value-at = c.value_at in
    let name : Span _ _ _ = record { ordered = pre.2; within = pre.3 } in
    values-on loop.invariant value-at.ensures c.in_ok-value.was (omega (arith, if1.false)) pre.0 name c.put_row-m.ensures c.look.ensures.0 c.if-look-ne-COMMA.false
    (omega (arith, c.look.ensures.1, c.if-look-ne-COMMA.false)) (search rules)
