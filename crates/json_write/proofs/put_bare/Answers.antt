use Rattle.output.proofs.Laws.{failed}
use native.Mathlib.Nat.{le_refl}
use native.Mathlib.Omega.{arith}
use mathlib.Core.Path.{refl, sym}
use mathlib.Core.List.{[], append-nil}
use Rattle.output.proofs.Rests.{Going, going, rest_all, rest-as, rest-next, rest-stop, rest-done, rest_in, rest-fit, rest-same}
use Rattle.json_write.proofs.Sixteen.{rest-copied}
use Rattle.json_write.proofs.put_bare.Goals as goal
use Rattle.json_write.proofs.put_bare.Goals.{In_ok-n}

-- after the last bytes
abbrev wrote : In_ok-n → Going
wrote c = going (rest-next [] (rest-as (sym (append-nil _)) c.loop-out.invariant) c.bare_from.ensures c.in_ok-n.was)

pub loop-out-init : goal.loop-out-init
loop-out-init c = rest_all _ _

pub overflow_sub-out : goal.overflow_sub-out
overflow_sub-out c = omega (arith, rest_in c.loop-out.invariant)

pub copy_sixteen-requires : goal.copy_sixteen-requires
copy_sixteen-requires c = let run = c.has_run.ensures c.loop-out-test.true in record { to_in_bounds = omega (arith, run.0); at_in_bounds = run.1 }

pub overflow_add-k : goal.overflow_add-k
overflow_add-k c = omega (arith, (c.has_run.ensures c.loop-out-test.true).0, c.well_formed.0.0)

pub overflow_add-i : goal.overflow_add-i
overflow_add-i c = omega (arith, (c.has_run.ensures c.loop-out-test.true).1)

pub loop-out-smaller : goal.loop-out-smaller
loop-out-smaller c = omega (arith, (c.has_run.ensures c.loop-out-test.true).1)

pub loop-out-preserved : goal.loop-out-preserved
loop-out-preserved c =
    let run = c.has_run.ensures c.loop-out-test.true in
    rest-copied c.args.s.now c.loop-out.i 16 run.2 c.loop-out.invariant c.copy_sixteen.ensures

pub slice_bounds-bare_from-count : goal.slice_bounds-bare_from-count
slice_bounds-bare_from-count c = rest_in c.loop-out.invariant

pub slice_bounds-bare_from-start : goal.slice_bounds-bare_from-start
slice_bounds-bare_from-start c = rest_in c.loop-out.invariant

pub slice_bounds-bare_from-end : goal.slice_bounds-bare_from-end
slice_bounds-bare_from-end c = le_refl _

pub returns-in_err-n : goal.returns-in_err-n
returns-in_err-n c =
    failed c.from_residual.ensures.0
    (rest-stop [] (rest-as (sym (append-nil _)) c.loop-out.invariant) c.bare_from.ensures c.in_err-n.was)

pub overflow_add-kn : goal.overflow_add-kn
overflow_add-kn c = rest-fit (wrote c).left c.well_formed.0.0

pub shape_of-out : goal.shape_of-out
shape_of-out c = rest-same (wrote c).left

pub returns : goal.returns
returns c = rest-done refl (wrote c).left
