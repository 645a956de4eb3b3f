use native.Mathlib.Omega.{arith}
use mathlib.Core.Path.{refl}
use mathlib.Core.List.{[]}
use Prim.Native.Nat.{◌+◌}
use Rattle.json_index.proofs.Objects.{no-object, empty-ends, no_member, members-in, members-end, by_place}
use Rattle.json_index.proofs.index_to_end.Goals as goal

pub returns-then-look-ne-LEFT_BRACE : goal.returns-then-look-ne-LEFT_BRACE
returns-then-look-ne-LEFT_BRACE c =
    let a = c.args in
    let i = c.skip_space-i in
    let b = c.look in
    record { value_ends = (λ n. absurd (n refl)); indexes = no-object a.depth a.s.now a.at a.names.now _ i.result b.result i.ensures b.ensures.0 c.if-look-ne-LEFT_BRACE.true }

pub overflow_add-result : goal.overflow_add-result
overflow_add-result c = omega (arith, c.look-2.ensures.1, c.if-look-eq-RIGHT_BRACE.true)

pub returns-then-look-eq-RIGHT_BRACE : goal.returns-then-look-eq-RIGHT_BRACE
returns-then-look-eq-RIGHT_BRACE c =
    let a = c.args in
    let i = c.skip_space-i in
    let b = c.look in
    let j = c.skip_space-j in
    let d = c.look-2 in
    let q = c.if-look-ne-LEFT_BRACE.false in
    let w = empty-ends a.depth a.s.now a.at a.names.now [] i.result b.result i.ensures b.ensures.0 q j.result d.result j.ensures d.ensures.0 c.if-look-eq-RIGHT_BRACE.true in
    let m = no_member a.depth a.s.now a.at a.names.now a.slots.now i.result b.result i.ensures b.ensures.0 q j.result d.result j.ensures d.ensures.0 c.if-look-eq-RIGHT_BRACE.true c.requires.clear in record {
      value_ends = (λ n. record { from = omega (arith, i.ensures.from, j.ensures.from); within = omega (arith, d.ensures.1, c.if-look-eq-RIGHT_BRACE.true); ends = w });
      indexes = by_place a.depth a.s.now a.at a.names.now _ (j.result + 1) (λ z. omega arith) m;
    }

pub index_from-requires : goal.index_from-requires
index_from-requires c =
    let j = c.skip_space-j.ensures in
    record { at_in_bounds = j.to; at_nonzero = omega (arith, j.from); names_in_bounds = c.requires.names_in_bounds; clear = c.requires.clear }

pub returns : goal.returns
returns c =
    let a = c.args in
    let i = c.skip_space-i in
    let b = c.look in
    let j = c.skip_space-j in
    let d = c.look-2 in
    let q = c.if-look-ne-LEFT_BRACE.false in
    let w = members-end a.depth a.s.now a.at a.names.now [] i.result b.result i.ensures b.ensures.0 q j.result d.result j.ensures d.ensures.0 c.if-look-eq-RIGHT_BRACE.false c.index_from.result c.index_from.ensures.ends_from in
    let m = members-in a.depth a.s.now a.at a.names.now c.index_from.new.slots i.result b.result i.ensures b.ensures.0 q j.result d.result j.ensures d.ensures.0 c.if-look-eq-RIGHT_BRACE.false c.index_from.ensures.indexes_from in record {
      value_ends = (λ n. record { from = omega (arith, i.ensures.from, j.ensures.from, c.index_from.ensures.lower_bound.0); within = c.index_from.ensures.lower_bound.1; ends = w });
      indexes = by_place a.depth a.s.now a.at a.names.now _ c.index_from.result (λ z. omega (arith, j.ensures.from, c.index_from.ensures.lower_bound.0)) m;
    }
