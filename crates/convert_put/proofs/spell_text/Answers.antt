use Rattle.output.proofs.Laws.{failed}
use mathlib.Core.Path.{◌≡◌, sym, ◌∙◌}
use mathlib.Core.Bool.{true}
use Prim.Native.Nat.{◌+◌}
use native.Mathlib.Nat.{le_refl}
use native.Mathlib.Omega.{arith}
use lib.ListN.{length, drop}
use Rattle.text.specs.Choice.{is_some}
use Rattle.text.specs.Reader.{taken}
use Rattle.text.proofs.Cases.{not-both}
use Rattle.line.specs.Text.{read_text}
use Rattle.line_text.proofs.Reading.{onward, byte-good, bad-good}
use Rattle.json_write.specs.Pieces.{bare}
use Rattle.json_write.proofs.Spelling.{bare-ran, bare-in}
use Rattle.output.proofs.Rests.{Going, going, rest_all, rest-as, rest-next, rest-stop, rest-done, rest_in, rest-fit, rest-same}
use Rattle.convert_put.proofs.Writing.{spell-byte, spell-end, text-run, run-good, run-text}
use Rattle.convert_put.proofs.spell_text.Goals as goal
use Rattle.convert_put.proofs.spell_text.Goals.{In_ok-m, In_ok-n-in-Byte}

-- after the bytes that stand for themselves
ran : (c : In_ok-m) → c.in_ok-m.m ≡ length (taken bare (drop c.loop-m.i c.args.s.now))
ran c = bare-ran c.args.s.now c.loop-m.i c.put_bare.ensures c.in_ok-m.was

abbrev run : In_ok-m → Going
run c =
    let s = c.args.s.now in
    going (rest-next _ (rest-as (run-text s c.loop-m.i _ (ran c) c.loop-m.invariant.1) c.loop-m.invariant.2) c.put_bare.ensures c.in_ok-m.was)

sound : (c : In_ok-m) → is_some (read_text (drop (c.loop-m.i + c.in_ok-m.m) c.args.s.now)) ≡ true
sound c = run-good c.args.s.now c.loop-m.i _ (ran c) c.loop-m.invariant.1

-- after a byte's piece
abbrev wrote : In_ok-n-in-Byte → Going
wrote c =
    going
    (rest-next _ (rest-as (spell-byte _ _ _ c.next_char.ensures (sound (goal.at.In_ok-n-in-Byte c).In_ok-m) _ _ c.in-Byte.is) (run (goal.at.In_ok-n-in-Byte c).In_ok-m).left) c.put_byte_spelled.ensures c.in_ok-n-in-Byte.was)

pub loop-m-init : goal.loop-m-init
loop-m-init c = (omega arith, c.requires, rest_all _ _)

pub slice_bounds-put_bare-count : goal.slice_bounds-put_bare-count
slice_bounds-put_bare-count c = rest_in c.loop-m.invariant.2

pub slice_bounds-put_bare-start : goal.slice_bounds-put_bare-start
slice_bounds-put_bare-start c = rest_in c.loop-m.invariant.2

pub slice_bounds-put_bare-end : goal.slice_bounds-put_bare-end
slice_bounds-put_bare-end c = le_refl _

pub returns-in_err-m : goal.returns-in_err-m
returns-in_err-m c =
    failed c.from_residual.ensures.0
    (let s = c.args.s.now in
    rest-stop _ (rest-as (text-run (drop c.loop-m.i s) c.loop-m.invariant.1).1 c.loop-m.invariant.2) c.put_bare.ensures c.in_err-m.was)

pub overflow_add-at : goal.overflow_add-at
overflow_add-at c = rest-fit (run c).left c.well_formed.0.0

pub overflow_add-i : goal.overflow_add-i
overflow_add-i c = omega (arith, bare-in c.args.s.now c.loop-m.i _ (ran c) c.loop-m.invariant.0)

pub slice_bounds-put_byte_spelled-count : goal.slice_bounds-put_byte_spelled-count
slice_bounds-put_byte_spelled-count c = rest_in (run (goal.at.slice_bounds-put_byte_spelled-count c).In_ok-m).left

pub slice_bounds-put_byte_spelled-start : goal.slice_bounds-put_byte_spelled-start
slice_bounds-put_byte_spelled-start c = rest_in (run (goal.at.slice_bounds-put_byte_spelled-start c).In_ok-m).left

pub slice_bounds-put_byte_spelled-end : goal.slice_bounds-put_byte_spelled-end
slice_bounds-put_byte_spelled-end c = le_refl _

pub returns-in_err-n-in-Byte : goal.returns-in_err-n-in-Byte
returns-in_err-n-in-Byte c =
    failed c.from_residual-in_err-n-in-Byte.ensures.0
    (rest-stop _ (rest-as (spell-byte _ _ _ c.next_char.ensures (sound (goal.at.returns-in_err-n-in-Byte c).In_ok-m) _ _ c.in-Byte.is) (run (goal.at.returns-in_err-n-in-Byte c).In_ok-m).left) c.put_byte_spelled.ensures c.in_err-n-in-Byte.was)

pub overflow_add-at-in-Byte : goal.overflow_add-at-in-Byte
overflow_add-at-in-Byte c = rest-fit (wrote c).left c.well_formed.0.0

pub loop-m-smaller : goal.loop-m-smaller
loop-m-smaller c = omega (arith, onward _ _ _ c.next_char.ensures _ _ c.in-Byte.is)

pub loop-m-preserved : goal.loop-m-preserved
loop-m-preserved c = (
  (onward _ _ _ c.next_char.ensures _ _ c.in-Byte.is).1,
  sym (byte-good _ _ _ c.next_char.ensures _ _ c.in-Byte.is) ∙ sound (goal.at.loop-m-preserved c).In_ok-m,
  (wrote c).left,
)

pub shape_of-out-in-Bad : goal.shape_of-out-in-Bad
shape_of-out-in-Bad c = rest-same (run (goal.at.shape_of-out-in-Bad c).In_ok-m).left

pub returns-in-Bad : goal.returns-in-Bad
returns-in-Bad c = not-both (sound (goal.at.returns-in-Bad c).In_ok-m) (bad-good _ _ _ c.next_char.ensures c.in-Bad.is)

pub shape_of-out-in-End : goal.shape_of-out-in-End
shape_of-out-in-End c = rest-same (run (goal.at.shape_of-out-in-End c).In_ok-m).left

pub returns-in-End : goal.returns-in-End
returns-in-End c = rest-done (spell-end _ _ _ c.next_char.ensures (sound (goal.at.returns-in-End c).In_ok-m) c.in-End.is) (run (goal.at.returns-in-End c).In_ok-m).left
