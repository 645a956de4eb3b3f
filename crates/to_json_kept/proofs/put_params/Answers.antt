use Rattle.output.proofs.Laws.{failed}
use mathlib.Core.Path.{refl}
use native.Mathlib.Nat.{le_refl}
use native.Mathlib.Omega.{arith}
use Rattle.output.proofs.Laws.{next, stop, within}
use Rattle.to_json_kept.proofs.Params.{going_start, going_on, going-full, going-all}
use Rattle.to_json_kept.proofs.put_params.Goals as goal

pub bounds-t-6 : goal.bounds-t-6
bounds-t-6 c = omega (arith, c.requires.wide)

pub loop-k-init : goal.loop-k-init
loop-k-init c = going_start c.args.s.now c.args.t.now c.args.grouped c.args.out.now _

pub is_param-on-requires : goal.is_param-on-requires
is_param-on-requires c = (c.requires, c.loop-k-test.true)

pub overflow_mul-i : goal.overflow_mul-i
overflow_mul-i c = omega (arith, c.requires.wide, c.requires.few, c.loop-k-test.true)

pub overflow_add-i : goal.overflow_add-i
overflow_add-i c = omega (arith, c.requires.wide, c.requires.few, c.loop-k-test.true)

pub offset_bounds-t-i : goal.offset_bounds-t-i
offset_bounds-t-i c = omega (arith, c.requires.wide, c.requires.few, c.loop-k-test.true)

pub bounds-t-i : goal.bounds-t-i
bounds-t-i c = omega (arith, c.requires.wide, c.requires.few, c.loop-k-test.true)

pub overflow_add-b : goal.overflow_add-b
overflow_add-b c = omega (arith, c.requires.wide, c.requires.few, c.loop-k-test.true)

pub offset_bounds-t-i-in-loop-k : goal.offset_bounds-t-i-in-loop-k
offset_bounds-t-i-in-loop-k c = omega (arith, c.requires.wide, c.requires.few, c.loop-k-test.true)

pub bounds-t-i-in-loop-k : goal.bounds-t-i-in-loop-k
bounds-t-i-in-loop-k c = omega (arith, c.requires.wide, c.requires.few, c.loop-k-test.true)

pub slice_bounds-put_param_if-count : goal.slice_bounds-put_param_if-count
slice_bounds-put_param_if-count c = within c.loop-k.invariant.so

pub slice_bounds-put_param_if-start : goal.slice_bounds-put_param_if-start
slice_bounds-put_param_if-start c = within c.loop-k.invariant.so

pub slice_bounds-put_param_if-end : goal.slice_bounds-put_param_if-end
slice_bounds-put_param_if-end c = le_refl _

pub put_param_if-requires : goal.put_param_if-requires
put_param_if-requires c = (c.requires, c.requires.rows.name c.loop-k.k c.loop-k-test.true)

pub returns-in_err-m : goal.returns-in_err-m
returns-in_err-m c =
    failed c.from_residual.ensures.0
    (going-full c.args.s.now c.args.t.now c.loop-k.invariant c.loop-k-test.true _ c.is_param-on.ensures (stop c.loop-k.invariant.so c.put_param_if.ensures c.in_err-m.was) refl)

pub overflow_add-at : goal.overflow_add-at
overflow_add-at c = let h = next c.loop-k.invariant.so c.put_param_if.ensures c.in_ok-m.was in omega (arith, h.fits, c.well_formed.0.0)

pub loop-k-preserved : goal.loop-k-preserved
loop-k-preserved c =
    going_on c.args.s.now c.args.t.now c.loop-k.invariant c.loop-k-test.true _ c.is_param-on.ensures (next c.loop-k.invariant.so c.put_param_if.ensures c.in_ok-m.was)

pub shape_of-out : goal.shape_of-out
shape_of-out c = c.loop-k.invariant.so.same

pub returns : goal.returns
returns c = going-all c.args.s.now c.args.t.now c.loop-k.invariant (omega (arith, c.loop-k-test.false)) refl
