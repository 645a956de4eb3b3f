use Rattle.output.proofs.Laws.{failed}
use native.Mathlib.Nat.{le_refl}
use native.Mathlib.Omega.{arith}
use lib.ListN.{drop}
use Rattle.output.proofs.Rests.{Going, going, rest_all, rest-as, rest-next, rest-stop, rest-done, rest_in, rest-fit, rest-same}
use Rattle.json_write.proofs.Spelling.{bare-all, bare-ran, bare-run, bare-in, spell_one, spell-out}
use Rattle.json_write.proofs.put_spelled.Goals as goal
use Rattle.json_write.proofs.put_spelled.Goals.{In_ok-m, In_ok-n}

-- after the bytes that stand for themselves
abbrev run : In_ok-m → Going
run c =
    let s = c.args.s.now in
    let i = c.loop-m.i in
    let e = c.in_ok-m.was in
    going (rest-next _ (rest-as (bare-run s i _ (bare-ran s i c.put_bare.ensures e)) c.loop-m.invariant.1) c.put_bare.ensures e)

-- after an escaped byte
abbrev wrote : In_ok-n → Going
wrote c =
    let s = c.args.s.now in
    going (rest-next _ (rest-as (spell_one s _ c.if-i-s.false) (run (goal.at.In_ok-n c).In_ok-m).left) c.put_escaped.ensures c.in_ok-n.was)

pub loop-m-init : goal.loop-m-init
loop-m-init c = (omega arith, rest_all _ _)

pub slice_bounds-put_bare-count : goal.slice_bounds-put_bare-count
slice_bounds-put_bare-count c = rest_in c.loop-m.invariant.1

pub slice_bounds-put_bare-start : goal.slice_bounds-put_bare-start
slice_bounds-put_bare-start c = rest_in c.loop-m.invariant.1

pub slice_bounds-put_bare-end : goal.slice_bounds-put_bare-end
slice_bounds-put_bare-end c = le_refl _

pub returns-in_err-m : goal.returns-in_err-m
returns-in_err-m c =
    failed c.from_residual.ensures.0
    (rest-stop _ (rest-as (bare-all (drop c.loop-m.i c.args.s.now)) c.loop-m.invariant.1) c.put_bare.ensures c.in_err-m.was)

pub overflow_add-at : goal.overflow_add-at
overflow_add-at c = rest-fit (run c).left c.well_formed.0.0

pub overflow_add-i : goal.overflow_add-i
overflow_add-i c =
    let s = c.args.s.now in
    let i = c.loop-m.i in
    omega (arith, bare-in s i _ (bare-ran s i c.put_bare.ensures c.in_ok-m.was) c.loop-m.invariant.0)

pub shape_of-out-then-i-s : goal.shape_of-out-then-i-s
shape_of-out-then-i-s c = rest-same (run (goal.at.shape_of-out-then-i-s c).In_ok-m).left

pub returns-then-i-s : goal.returns-then-i-s
returns-then-i-s c = rest-done (spell-out c.args.s.now _ c.if-i-s.true) (run (goal.at.returns-then-i-s c).In_ok-m).left

pub slice_bounds-put_escaped-count : goal.slice_bounds-put_escaped-count
slice_bounds-put_escaped-count c = rest_in (run (goal.at.slice_bounds-put_escaped-count c).In_ok-m).left

pub slice_bounds-put_escaped-start : goal.slice_bounds-put_escaped-start
slice_bounds-put_escaped-start c = rest_in (run (goal.at.slice_bounds-put_escaped-start c).In_ok-m).left

pub slice_bounds-put_escaped-end : goal.slice_bounds-put_escaped-end
slice_bounds-put_escaped-end c = le_refl _

pub returns-in_err-n : goal.returns-in_err-n
returns-in_err-n c =
    failed c.from_residual-in_err-n.ensures.0
    (let s = c.args.s.now in
    rest-stop _ (rest-as (spell_one s _ c.if-i-s.false) (run (goal.at.returns-in_err-n c).In_ok-m).left) c.put_escaped.ensures c.in_err-n.was)

pub overflow_add-at-in-loop-m : goal.overflow_add-at-in-loop-m
overflow_add-at-in-loop-m c = rest-fit (wrote c).left c.well_formed.0.0

pub loop-m-preserved : goal.loop-m-preserved
loop-m-preserved c = (omega (arith, c.if-i-s.false), (wrote c).left)
