use Rattle.output.proofs.Laws.{failed}
use Prim.Native.Nat.{◌-◌}
use native.Mathlib.Nat.{le_refl}
use native.Mathlib.Omega.{arith}
use borrow.Author.Rules.{rules}
use lib.ListN.{length, drop}
use borrow.Rule.Slice.PartMut.{mid_of}
use Rattle.output.proofs.Laws.{puts-as}
use Rattle.output.specs.Put.{Puts}
use Rattle.output.proofs.Rests.{rest_all, rest-as, rest-next, rest-stop, rest-done, rest_in, rest-fit, rest-same, Going, going}
use Rattle.json_compact.specs.Squeezed.{squeezed}
use Rattle.json_compact.proofs.Pieces.{turn_on, turn-less, turn-bad, turn_end}
use Rattle.json_compact.proofs.Text.{compacts}
use Rattle.json_compact.proofs.Stands.{stands-part}
use Rattle.json_compact.proofs.put_compact.Goals as goal
use Rattle.json_compact.proofs.put_compact.Goals.{After-put_run, In_ok-m, In_ok-n}

pub loop-m-init : goal.loop-m-init
loop-m-init c = (search rules, rest_all _ _)

pub run_end-j-requires : goal.run_end-j-requires
run_end-j-requires c = c.loop-m.invariant.0

pub slice_bounds-put_run-count : goal.slice_bounds-put_run-count
slice_bounds-put_run-count c = rest_in c.loop-m.invariant.1

pub slice_bounds-put_run-start : goal.slice_bounds-put_run-start
slice_bounds-put_run-start c = rest_in c.loop-m.invariant.1

pub slice_bounds-put_run-end : goal.slice_bounds-put_run-end
slice_bounds-put_run-end c = le_refl _

pub slice_bounds-put_run-count-in-loop-m : goal.slice_bounds-put_run-count-in-loop-m
slice_bounds-put_run-count-in-loop-m c = c.run_end-j.ensures.from

pub slice_bounds-put_run-start-in-loop-m : goal.slice_bounds-put_run-start-in-loop-m
slice_bounds-put_run-start-in-loop-m c = c.run_end-j.ensures.from

pub slice_bounds-put_run-end-in-loop-m : goal.slice_bounds-put_run-end-in-loop-m
slice_bounds-put_run-end-in-loop-m c = c.run_end-j.ensures.within

-- what stands there as it is written is written
run : (c : After-put_run)
    → Puts (mid_of c.loop-m.at (length c.loop-m.out - c.loop-m.at) c.loop-m.out) c.run_end-j.ensures.text c.put_run.result c.put_run.new.out
run c = puts-as (stands-part c.args.s.now c.run_end-j.ensures) c.put_run.ensures

pub returns-in_err-m : goal.returns-in_err-m
returns-in_err-m c =
    let s = c.args.s.now in
    let run-end = c.run_end-j in
    let full = rest-stop (squeezed (drop run-end.result s)) (rest-as run-end.ensures.so c.loop-m.invariant.1) (run (goal.at.returns-in_err-m c).After-put_run) c.in_err-m.was in
    compacts s (failed c.from_residual.ensures.0 full)

-- after such a run
abbrev ran : In_ok-m → Going
ran c =
    let s = c.args.s.now in
    let run-end = c.run_end-j in
    going (rest-next (squeezed (drop run-end.result s)) (rest-as run-end.ensures.so c.loop-m.invariant.1) (run (goal.at.In_ok-m c).After-put_run) c.in_ok-m.was)

pub overflow_add-at : goal.overflow_add-at
overflow_add-at c = rest-fit (ran c).left c.well_formed.0.0

pub shape_of-out-then-j-s : goal.shape_of-out-then-j-s
shape_of-out-then-j-s c = rest-same (ran (goal.at.shape_of-out-then-j-s c).In_ok-m).left

pub returns-then-j-s : goal.returns-then-j-s
returns-then-j-s c =
    let s = c.args.s.now in
    compacts s (rest-done (turn_end s c.run_end-j.result c.if-j-s.true) (ran (goal.at.returns-then-j-s c).In_ok-m).left)

pub piece_end-requires : goal.piece_end-requires
piece_end-requires c = omega (arith, c.if-j-s.false)

pub shape_of-out-in_default : goal.shape_of-out-in_default
shape_of-out-in_default c = rest-same (ran (goal.at.shape_of-out-in_default c).In_ok-m).left

pub returns-in_default : goal.returns-in_default
returns-in_default c =
    let s = c.args.s.now in
    compacts s (rest-done (turn-bad s c.run_end-j.result c.piece_end.ensures (omega (arith, c.if-j-s.false)) c.in_default.is) (ran (goal.at.returns-in_default c).In_ok-m).left)

pub slice_bounds-put_piece-count : goal.slice_bounds-put_piece-count
slice_bounds-put_piece-count c = rest_in (ran (goal.at.slice_bounds-put_piece-count c).In_ok-m).left

pub slice_bounds-put_piece-start : goal.slice_bounds-put_piece-start
slice_bounds-put_piece-start c = rest_in (ran (goal.at.slice_bounds-put_piece-start c).In_ok-m).left

pub slice_bounds-put_piece-end : goal.slice_bounds-put_piece-end
slice_bounds-put_piece-end c = le_refl _

pub put_piece-requires : goal.put_piece-requires
put_piece-requires c = omega (arith, c.if-j-s.false)

pub returns-in_err-n : goal.returns-in_err-n
returns-in_err-n c =
    let s = c.args.s.now in
    let w = turn_on s c.run_end-j.result c.piece_end.ensures c.in-Ok.is in
    let full = rest-stop (squeezed (drop c.in-Ok.e s)) (rest-as w.2 (ran (goal.at.returns-in_err-n c).In_ok-m).left) (c.put_piece.ensures w.0 _ w.1) c.in_err-n.was in
    compacts s (failed c.from_residual-in_err-n.ensures.0 full)

-- and after the piece that follows it
abbrev wrote : In_ok-n → Going
wrote c =
    let s = c.args.s.now in
    let w = turn_on s c.run_end-j.result c.piece_end.ensures c.in-Ok.is in
    going (rest-next (squeezed (drop c.in-Ok.e s)) (rest-as w.2 (ran (goal.at.In_ok-n c).In_ok-m).left) (c.put_piece.ensures w.0 _ w.1) c.in_ok-n.was)

pub overflow_add-at-in-loop-m : goal.overflow_add-at-in-loop-m
overflow_add-at-in-loop-m c = rest-fit (wrote c).left c.well_formed.0.0

pub loop-m-smaller : goal.loop-m-smaller
loop-m-smaller c =
    let args = c.args in
    let run-end = c.run_end-j in
    let on = turn-less args.s.now run-end.result c.piece_end.ensures c.in-Ok.is in
    omega (arith, on, run-end.ensures.from)

pub loop-m-preserved : goal.loop-m-preserved
loop-m-preserved c =
    let args = c.args in
    let run-end = c.run_end-j in
    let on = turn-less args.s.now run-end.result c.piece_end.ensures c.in-Ok.is in
    (on.1, (wrote c).left)
