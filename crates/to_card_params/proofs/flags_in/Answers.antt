use native.Mathlib.Omega.{arith}
use mathlib.Core.Path.{refl, ◌∙◌}
use Prim.Native.Nat.{◌+◌}
use lib.ListN.{length, length-set}
use Rattle.json_walk.proofs.Laws.{less-ahead}
use Rattle.to_card_params.proofs.Flags.{placed-in, todo-first, flags-absent, flags-not, flags-other, flags-on, flags-all, flags-none}
use Rattle.to_card_params.proofs.flags_in.Goals as goal

pub returns-then-slot-eq0 : goal.returns-then-slot-eq0
returns-then-slot-eq0 c =
    let a = c.args in
    record { row_len_unchanged = refl; tells_flags = flags-absent a.s.now a.slot a.base a.names.now _ c.if-slot-eq0.true }

pub loop-m-init : goal.loop-m-init
loop-m-init c =
    let a = c.args in
    ((a.slot, c.first_member-m.ensures.member_in), refl, todo-first a.s.now a.slot a.base a.names.now a.row.now c.first_member-m.result c.first_member-m.ensures.first_of)

pub shape_of-row-then-v-ne-TRUE : goal.shape_of-row-then-v-ne-TRUE
shape_of-row-then-v-ne-TRUE c = c.loop-m.invariant.1

pub returns-then-v-ne-TRUE : goal.returns-then-v-ne-TRUE
returns-then-v-ne-TRUE c =
    let kind_at = c.kind_at in
    let kind-code = c.kind_code-v in
    let a = c.args in
    let l = c.loop-m in
    record {
      row_len_unchanged = l.invariant.1;
      tells_flags = flags-not a.s.now a.slot a.base a.names.now a.row.now c.if-slot-eq0.false l.m l.row l.invariant.2 c.in-At.q c.in-At.a c.in-At.is kind_at.result kind_at.ensures kind-code.result kind-code.ensures c.if-v-ne-TRUE.true _;
    }

pub shape_of-row-then-k-count : goal.shape_of-row-then-k-count
shape_of-row-then-k-count c = c.loop-m.invariant.1

pub returns-then-k-count : goal.returns-then-k-count
returns-then-k-count c =
    let kind_at = c.kind_at in
    let kind-code = c.kind_code-v in
    let a = c.args in
    let l = c.loop-m in
    let w = c.which_name-k in record {
      row_len_unchanged = l.invariant.1;
      tells_flags = flags-other a.s.now a.slot a.base a.names.now a.row.now c.if-slot-eq0.false l.m l.row l.invariant.2 c.in-At.q c.in-At.a c.in-At.is kind_at.result kind_at.ensures kind-code.result kind-code.ensures c.if-v-ne-TRUE.false
          w.result (placed-in _ a.names.now w.ensures) a.count c.requires.count_value c.if-k-count.true _;
    }

pub overflow_add-c : goal.overflow_add-c
overflow_add-c c = omega (arith, c.requires.count_in_bounds, c.if-k-count.false)

pub bounds-row-c : goal.bounds-row-c
bounds-row-c c = omega (arith, c.requires.count_in_bounds, c.if-k-count.false, c.loop-m.invariant.1)

pub loop-m-smaller : goal.loop-m-smaller
loop-m-smaller c =
    let loop = c.loop-m in
    less-ahead (length c.args.s.now) loop.m c.next_member-m.result c.in-At.q c.in-At.a c.skip_value-e.result c.in-At.is loop.invariant.0 c.skip_value-e.ensures.lower_bound.0 c.next_member-m.ensures.member_in

pub loop-m-preserved : goal.loop-m-preserved
loop-m-preserved c =
    let kind_at = c.kind_at in
    let kind-code = c.kind_code-v in
    let a = c.args in
    let l = c.loop-m in
    let w = c.which_name-k in (
      (c.skip_value-e.result, c.next_member-m.ensures.member_in),
      length-set l.row (a.base + w.result) 1 ∙ l.invariant.1,
      flags-on a.s.now a.slot a.base a.names.now a.row.now c.if-slot-eq0.false l.m l.row l.invariant.2 c.in-At.q c.in-At.a c.in-At.is kind_at.result kind_at.ensures kind-code.result kind-code.ensures c.if-v-ne-TRUE.false
          w.result (placed-in _ a.names.now w.ensures) a.count c.requires.count_value (omega (arith, c.if-k-count.false)) c.skip_value-e.result (c.skip_value-e.ensures.skips 12) c.next_member-m.result c.next_member-m.ensures.next_of,
    )

pub shape_of-row-in-End : goal.shape_of-row-in-End
shape_of-row-in-End c = c.loop-m.invariant.1

pub returns-in-End : goal.returns-in-End
returns-in-End c =
    let a = c.args in
    let l = c.loop-m in
    record {
      row_len_unchanged = l.invariant.1;
      tells_flags = flags-all a.s.now a.slot a.base a.names.now a.row.now c.if-slot-eq0.false l.m l.row l.invariant.2 c.in-End.x c.in-End.is;
    }

pub shape_of-row-in-NoObject : goal.shape_of-row-in-NoObject
shape_of-row-in-NoObject c = c.loop-m.invariant.1

pub returns-in-NoObject : goal.returns-in-NoObject
returns-in-NoObject c =
    let a = c.args in
    let l = c.loop-m in
    record {
      row_len_unchanged = l.invariant.1;
      tells_flags = flags-none a.s.now a.slot a.base a.names.now a.row.now c.if-slot-eq0.false l.m l.row l.invariant.2 c.in-NoObject.is _;
    }
