use Rattle.output.proofs.Laws.{failed}
use native.Mathlib.Nat.{le_refl}
use native.Mathlib.Omega.{arith}
use Rattle.output.proofs.Rests.{Going, going, rest_all, rest-as, rest-next, rest-stop, rest-done, rest_in, rest-fit, rest-same}
use Rattle.to_json_kept_values.proofs.Names.{lower-one, lower-out}
use Rattle.to_json_kept_values.proofs.spell_lower.Goals as goal
use Rattle.to_json_kept_values.proofs.spell_lower.Goals.{In_ok-n}

abbrev wrote : In_ok-n → Going
wrote c =
    let args = c.args in
    let loop = c.loop-b in
    let loop-test = c.loop-b-test in
    let lower_of = c.lower_of in
    let put-byte-spelled = c.put_byte_spelled in
    going
    (rest-next _ (rest-as (lower-one args.s.now loop.b-index _ loop-test.true lower_of.ensures) loop.invariant)
    put-byte-spelled.ensures c.in_ok-n.was)

pub loop-b-init : goal.loop-b-init
loop-b-init c = rest_all _ _

pub slice_bounds-put_byte_spelled-count : goal.slice_bounds-put_byte_spelled-count
slice_bounds-put_byte_spelled-count c = rest_in c.loop-b.invariant

pub slice_bounds-put_byte_spelled-start : goal.slice_bounds-put_byte_spelled-start
slice_bounds-put_byte_spelled-start c = rest_in c.loop-b.invariant

pub slice_bounds-put_byte_spelled-end : goal.slice_bounds-put_byte_spelled-end
slice_bounds-put_byte_spelled-end c = le_refl _

pub returns-in_err-n : goal.returns-in_err-n
returns-in_err-n c =
    failed c.from_residual.ensures.0
    (let args = c.args in
    let loop = c.loop-b in
    let loop-test = c.loop-b-test in
    let lower_of = c.lower_of in
    let put-byte-spelled = c.put_byte_spelled in
    rest-stop _ (rest-as (lower-one args.s.now loop.b-index _ loop-test.true lower_of.ensures) loop.invariant) put-byte-spelled.ensures
    c.in_err-n.was)

pub overflow_add-at : goal.overflow_add-at
overflow_add-at c = rest-fit (wrote c).left c.well_formed.0.0

pub loop-b-preserved : goal.loop-b-preserved
loop-b-preserved c = (wrote c).left

pub shape_of-out : goal.shape_of-out
shape_of-out c = rest-same c.loop-b.invariant

pub returns : goal.returns
returns c = rest-done (lower-out c.args.s.now c.loop-b.b-index (omega (arith, c.loop-b-test.false))) c.loop-b.invariant
