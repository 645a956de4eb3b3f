use Rattle.output.proofs.Laws.{failed}
use mathlib.Core.Path.{sym, ap, ◌∙◌}
use Rattle.json_text.specs.Compact.{spelled_all}
use native.Mathlib.Nat.{le_refl, lt_of_lt_of_le}
use native.Mathlib.Omega.{arith}
use Rattle.output.proofs.Laws.{start, done, puts-as}
use Rattle.output.proofs.Rests.{rest_all, rest-as, rest-next, rest-stop, rest-done, rest_in, rest-fit, rest-same, Going, going}
use Rattle.json_strings.proofs.NextByte.{byte-in, not-alone, none_left, one_left, text-none, text-left, text_in}
use Rattle.json_strings.proofs.Bare.{weight-on}
use Rattle.json_write.proofs.Runs.{Place, place, run-next, run-stop}
use Rattle.json_write.proofs.Spelling.{spelled_none, spelled-first}
use Rattle.json_write.proofs.put_respelled.Goals as goal
use Rattle.json_write.proofs.put_respelled.Goals.{In_ok-m, In_ok-n-in-One}

-- after a run
abbrev run : In_ok-m → Place
run c =
    let s = c.args.s.now in
    place (run-next s (λ i. omega (arith, c.type_inv.s i)) c.loop-m.invariant c.put_run.ensures c.in_ok-m.was)

-- after a byte's piece
abbrev wrote : In_ok-n-in-One → Going
wrote c =
    let args = c.args in
    let a = (run (goal.at.In_ok-n-in-One c).In_ok-m).ahead in
    let next-byte = c.next_byte in
    let put-byte-spelled = c.put_byte_spelled in
    let u = one_left args.s.now next-byte.ensures.0 _ a.is c.in-One.is in going
    (rest-next (spelled_all u.0) (rest-as (spelled-first u.2) a.rest) put-byte-spelled.ensures c.in_ok-n-in-One.was)

pub returns-then-not-is_paired : goal.returns-then-not-is_paired
returns-then-not-is_paired c = puts-as (sym (ap spelled_all (text-none c.args.s.now c.args.from (sym c.is_paired.ensures ∙ c.if-not-is_paired.true)) ∙ spelled_none)) (done (start _))

pub loop-m-init : goal.loop-m-init
loop-m-init c =
    let args = c.args in
    let p = sym c.is_paired.ensures ∙ c.if-not-is_paired.false in
    record { within = text_in args.s.now args.from p; more = _; is = text-left args.s.now args.from p; rest = rest_all _ _ }

pub slice_bounds-put_run-count : goal.slice_bounds-put_run-count
slice_bounds-put_run-count c = rest_in c.loop-m.invariant.rest

pub slice_bounds-put_run-start : goal.slice_bounds-put_run-start
slice_bounds-put_run-start c = rest_in c.loop-m.invariant.rest

pub slice_bounds-put_run-end : goal.slice_bounds-put_run-end
slice_bounds-put_run-end c = le_refl _

pub returns-in_err-m : goal.returns-in_err-m
returns-in_err-m c =
    failed c.from_residual.ensures.0
    (let s = c.args.s.now in
    run-stop s (λ i. omega (arith, c.type_inv.s i)) c.loop-m.invariant c.put_run.ensures c.in_err-m.was)

pub overflow_add-at : goal.overflow_add-at
overflow_add-at c = rest-fit (run c).ahead.rest c.well_formed.0.0

pub overflow_add-i : goal.overflow_add-i
overflow_add-i c = omega (arith, (run c).ahead.within)

pub next_byte-requires : goal.next_byte-requires
next_byte-requires c = (run c).ahead.within

pub shape_of-out-in-Alone : goal.shape_of-out-in-Alone
shape_of-out-in-Alone c = rest-same (run (goal.at.shape_of-out-in-Alone c).In_ok-m).ahead.rest

pub returns-in-Alone : goal.returns-in-Alone
returns-in-Alone c = absurd (not-alone c.args.s.now c.next_byte.ensures.0 _ (run (goal.at.returns-in-Alone c).In_ok-m).ahead.is c.in-Alone.is)

pub shape_of-out-in-End : goal.shape_of-out-in-End
shape_of-out-in-End c = rest-same (run (goal.at.shape_of-out-in-End c).In_ok-m).ahead.rest

pub returns-in-End : goal.returns-in-End
returns-in-End c =
    let args = c.args in
    let a = (run (goal.at.returns-in-End c).In_ok-m).ahead in
    rest-done
    (ap spelled_all (none_left args.s.now c.next_byte.ensures.0 _ a.is c.in-End.is) ∙
    spelled_none)
    a.rest

pub slice_bounds-put_byte_spelled-count : goal.slice_bounds-put_byte_spelled-count
slice_bounds-put_byte_spelled-count c = rest_in (run (goal.at.slice_bounds-put_byte_spelled-count c).In_ok-m).ahead.rest

pub slice_bounds-put_byte_spelled-start : goal.slice_bounds-put_byte_spelled-start
slice_bounds-put_byte_spelled-start c = rest_in (run (goal.at.slice_bounds-put_byte_spelled-start c).In_ok-m).ahead.rest

pub slice_bounds-put_byte_spelled-end : goal.slice_bounds-put_byte_spelled-end
slice_bounds-put_byte_spelled-end c = le_refl _

pub returns-in_err-n-in-One : goal.returns-in_err-n-in-One
returns-in_err-n-in-One c =
    failed c.from_residual-in_err-n-in-One.ensures.0
    (let args = c.args in
    let a = (run (goal.at.returns-in_err-n-in-One c).In_ok-m).ahead in
    let next-byte = c.next_byte in
    let put-byte-spelled = c.put_byte_spelled in
    let u = one_left args.s.now next-byte.ensures.0 _ a.is c.in-One.is in rest-stop (spelled_all u.0)
    (rest-as (spelled-first u.2) a.rest) put-byte-spelled.ensures c.in_err-n-in-One.was)

pub overflow_add-at-in-One : goal.overflow_add-at-in-One
overflow_add-at-in-One c = rest-fit (wrote c).left c.well_formed.0.0

pub loop-m-smaller : goal.loop-m-smaller
loop-m-smaller c =
    let args = c.args in
    let a = (run (goal.at.loop-m-smaller c).In_ok-m).ahead in
    let next-byte = c.next_byte in
    let w = byte-in args.s.now _ _ next-byte.ensures.1 c.in-One.is in
    lt_of_lt_of_le w.1 (weight-on args.s.now c.loop-m.i c.loop-m.h _)

pub loop-m-preserved : goal.loop-m-preserved
loop-m-preserved c =
    let args = c.args in
    let a = (run (goal.at.loop-m-preserved c).In_ok-m).ahead in
    let next-byte = c.next_byte in
    let u = one_left args.s.now next-byte.ensures.0 _ a.is c.in-One.is in
    record { within = (byte-in args.s.now _ _ next-byte.ensures.1 c.in-One.is).0; more = u.0; is = u.1; rest = (wrote c).left }
