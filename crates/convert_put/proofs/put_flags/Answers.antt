use Rattle.output.proofs.Laws.{failed}
use mathlib.Core.Path.{refl, ◌∙◌}
use mathlib.Core.List.{[]}
use native.Mathlib.Nat.{le_refl}
use native.Mathlib.Omega.{arith}
use Rattle.output.proofs.Rests.{Going, going, rest_all, rest-as, rest-next, rest-stop, rest-done, rest_in, rest-fit, rest-same}
use Rattle.convert_put.proofs.Writing.{flags-turn, flags-end, closed, opened}
use Rattle.convert_put.proofs.put_flags.Goals as goal
use Rattle.convert_put.proofs.put_flags.Goals.{In_ok-n, In_ok-n-2}

-- after a flag's piece, and after the closing brace
abbrev wrote : In_ok-n → Going
wrote c =
    let args = c.args in
    let loop = c.loop-c in
    let loop-test = c.loop-c-test in
    let put-flag = c.put_flag in
    going
    (rest-next _ (rest-as (flags-turn args.row.now loop.c args.hi loop.begun loop-test.true) loop.invariant.1)
    put-flag.ensures c.in_ok-n.was)

abbrev ended : In_ok-n-2 → Going
ended c =
    let args = c.args in
    let loop = c.loop-c in
    let loop-test = c.loop-c-test in
    let put_byte = c.put_byte in
    going
    (rest-next []
    (rest-as (flags-end args.row.now loop.c args.hi loop.begun loop-test.false ∙ opened _ c.if-not-begun.false)
    loop.invariant.1)
    put_byte.ensures c.in_ok-n-2.was)

pub loop-c-init : goal.loop-c-init
loop-c-init c = (c.requires.0, rest_all _ _)

pub bounds-row-c : goal.bounds-row-c
bounds-row-c c = omega (arith, c.requires.1)

pub slice_bounds-put_flag-count : goal.slice_bounds-put_flag-count
slice_bounds-put_flag-count c = rest_in c.loop-c.invariant.1

pub slice_bounds-put_flag-start : goal.slice_bounds-put_flag-start
slice_bounds-put_flag-start c = rest_in c.loop-c.invariant.1

pub slice_bounds-put_flag-end : goal.slice_bounds-put_flag-end
slice_bounds-put_flag-end c = le_refl _

pub returns-in_err-n : goal.returns-in_err-n
returns-in_err-n c =
    failed c.from_residual.ensures.0
    (let args = c.args in
    let loop = c.loop-c in
    let loop-test = c.loop-c-test in
    let put-flag = c.put_flag in
    rest-stop _ (rest-as (flags-turn args.row.now loop.c args.hi loop.begun loop-test.true) loop.invariant.1) put-flag.ensures
    c.in_err-n.was)

pub overflow_add-at : goal.overflow_add-at
overflow_add-at c = rest-fit (wrote c).left c.well_formed.0.0

pub loop-c-preserved : goal.loop-c-preserved
loop-c-preserved c = (omega arith, (wrote c).left)

pub shape_of-out-then-not-begun : goal.shape_of-out-then-not-begun
shape_of-out-then-not-begun c = rest-same c.loop-c.invariant.1

pub returns-then-not-begun : goal.returns-then-not-begun
returns-then-not-begun c =
    let args = c.args in
    let loop = c.loop-c in
    rest-done (flags-end args.row.now loop.c args.hi loop.begun c.loop-c-test.false ∙ closed _ c.if-not-begun.true)
    loop.invariant.1

pub slice_bounds-put_byte-count : goal.slice_bounds-put_byte-count
slice_bounds-put_byte-count c = rest_in c.loop-c.invariant.1

pub slice_bounds-put_byte-start : goal.slice_bounds-put_byte-start
slice_bounds-put_byte-start c = rest_in c.loop-c.invariant.1

pub slice_bounds-put_byte-end : goal.slice_bounds-put_byte-end
slice_bounds-put_byte-end c = le_refl _

pub returns-in_err-n-2 : goal.returns-in_err-n-2
returns-in_err-n-2 c =
    failed c.from_residual-in_err-n-2.ensures.0
    (let args = c.args in
    let loop = c.loop-c in
    let loop-test = c.loop-c-test in
    let put_byte = c.put_byte in
    rest-stop []
    (rest-as (flags-end args.row.now loop.c args.hi loop.begun loop-test.false ∙ opened _ c.if-not-begun.false)
    loop.invariant.1)
    put_byte.ensures c.in_err-n-2.was)

pub overflow_add-all : goal.overflow_add-all
overflow_add-all c = rest-fit (ended c).left c.well_formed.0.0

pub shape_of-out : goal.shape_of-out
shape_of-out c = rest-same (ended c).left

pub returns : goal.returns
returns c = rest-done refl (ended c).left
