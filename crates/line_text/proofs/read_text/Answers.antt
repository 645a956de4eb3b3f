use Rattle.output.proofs.Laws.{failed}
use Prim.Native.Nat.{ℕ}
use mathlib.Core.Path.{◌≡◌, sym, ◌∙◌}
use native.Mathlib.Nat.{le_refl}
use native.Mathlib.Omega.{arith}
use lib.ListN.{drop}
use mathlib.Core.Bool.{true, false}
use Rattle.text.specs.Choice.{is_some}
use Rattle.line.specs.Text.{read_text}
use Rattle.output.proofs.Laws.{puts-as}
use Rattle.output.proofs.Rests.{Going, going, rest_all, rest-as, rest-next, rest-stop, rest-byte, rest-no-byte, rest-done, rest_in, rest-fit, rest-same}
use Rattle.line_text.proofs.Plain.{plain-good, plain-run, plain-whole, plain-tail}
use Rattle.line_text.proofs.Reading.{onward, byte-good, bad-good, byte-plain, end-plain, bad-plain}
use Rattle.line_text.proofs.read_text.Goals as goal
use Rattle.line_text.proofs.read_text.Goals.{In_ok-n}

-- after what stands before the next backslash
abbrev run : In_ok-n → Going
run c =
    let args = c.args in
    let loop = c.loop-n in
    let l = c.plain_end-j.ensures in
    let todo = rest-as (plain-run args.s.now loop.i _ l.0 l.1 l.2 loop.invariant.1) loop.invariant.2 in
    going (rest-next _ todo c.put_text-in-loop-n.ensures c.in_ok-n.was)

good-on : (c : In_ok-n) → is_some (read_text (drop c.plain_end-j.result c.args.s.now)) ≡ true
good-on c =
    let args = c.args in
    let loop = c.loop-n in
    let l = c.plain_end-j.ensures in
    sym (plain-good args.s.now loop.i _ l.0 l.1 l.2) ∙ loop.invariant.1

pub plain_end-plain-requires : goal.plain_end-plain-requires
plain_end-plain-requires c = omega arith

pub returns-then-plain-s : goal.returns-then-plain-s
returns-then-plain-s c =
    let l = c.plain_end-plain.ensures in
    puts-as (plain-whole c.args.s.now _ l.1 c.if-plain-s.true l.2) c.put_text.ensures

pub slice_bounds-is_text-count : goal.slice_bounds-is_text-count
slice_bounds-is_text-count c = c.plain_end-plain.ensures.1

pub slice_bounds-is_text-start : goal.slice_bounds-is_text-start
slice_bounds-is_text-start c = c.plain_end-plain.ensures.1

pub slice_bounds-is_text-end : goal.slice_bounds-is_text-end
slice_bounds-is_text-end c = le_refl _

pub returns-then-not-is_text : goal.returns-then-not-is_text
returns-then-not-is_text c =
    let s = c.args.s.now in
    let l = c.plain_end-plain.ensures in
    rest-done (bad-plain s (plain-tail s _ l.1 l.2 ∙ sym c.is_text.ensures ∙ c.if-not-is_text.true)) (rest_all _ _)

pub loop-n-init : goal.loop-n-init
loop-n-init c =
    let l = c.plain_end-plain.ensures in
    (omega arith, plain-tail c.args.s.now _ l.1 l.2 ∙ sym c.is_text.ensures ∙ c.if-not-is_text.false, rest_all _ _)

pub plain_end-j-requires : goal.plain_end-j-requires
plain_end-j-requires c = c.loop-n.invariant.0

pub slice_bounds-put_text-count : goal.slice_bounds-put_text-count
slice_bounds-put_text-count c = rest_in c.loop-n.invariant.2

pub slice_bounds-put_text-start : goal.slice_bounds-put_text-start
slice_bounds-put_text-start c = rest_in c.loop-n.invariant.2

pub slice_bounds-put_text-end : goal.slice_bounds-put_text-end
slice_bounds-put_text-end c = le_refl _

pub slice_bounds-put_text-count-in-loop-n : goal.slice_bounds-put_text-count-in-loop-n
slice_bounds-put_text-count-in-loop-n c = c.plain_end-j.ensures.0

pub slice_bounds-put_text-start-in-loop-n : goal.slice_bounds-put_text-start-in-loop-n
slice_bounds-put_text-start-in-loop-n c = omega (arith, c.plain_end-j.ensures)

pub slice_bounds-put_text-end-in-loop-n : goal.slice_bounds-put_text-end-in-loop-n
slice_bounds-put_text-end-in-loop-n c = omega (arith, c.plain_end-j.ensures)

pub returns-in_err-n : goal.returns-in_err-n
returns-in_err-n c =
    failed c.from_residual.ensures.0
    (let args = c.args in
    let loop = c.loop-n in
    let l = c.plain_end-j.ensures in
    let todo = rest-as (plain-run args.s.now loop.i _ l.0 l.1 l.2 loop.invariant.1) loop.invariant.2 in
    rest-stop _ todo c.put_text-in-loop-n.ensures c.in_err-n.was)

pub overflow_add-at : goal.overflow_add-at
overflow_add-at c = rest-fit (run c).left c.well_formed.0.0

pub shape_of-out-then-at-out : goal.shape_of-out-then-at-out
shape_of-out-then-at-out c = rest-same (run (goal.at.shape_of-out-then-at-out c).In_ok-n).left

pub returns-then-at-out : goal.returns-then-at-out
returns-then-at-out c = rest-no-byte (rest-as (byte-plain _ _ _ c.next_char.ensures _ _ c.in-Byte.is (good-on (goal.at.returns-then-at-out c).In_ok-n)) (run (goal.at.returns-then-at-out c).In_ok-n).left) c.if-at-out.true

pub loop-n-smaller : goal.loop-n-smaller
loop-n-smaller c = omega (arith, c.plain_end-j.ensures.0, onward _ _ _ c.next_char.ensures _ _ c.in-Byte.is)

pub loop-n-preserved : goal.loop-n-preserved
loop-n-preserved c = (
  (onward _ _ _ c.next_char.ensures _ _ c.in-Byte.is).1,
  sym (byte-good _ _ _ c.next_char.ensures _ _ c.in-Byte.is) ∙ (good-on (goal.at.loop-n-preserved c).In_ok-n),
  rest-byte (rest-as (byte-plain _ _ _ c.next_char.ensures _ _ c.in-Byte.is (good-on (goal.at.loop-n-preserved c).In_ok-n)) (run (goal.at.loop-n-preserved c).In_ok-n).left) c.if-at-out.false,
)

pub shape_of-out-in-Bad : goal.shape_of-out-in-Bad
shape_of-out-in-Bad c = rest-same (run (goal.at.shape_of-out-in-Bad c).In_ok-n).left

pub returns-in-Bad : goal.returns-in-Bad
returns-in-Bad c = absurd (let z : ◌≡◌ false true = sym (bad-good _ _ _ c.next_char.ensures c.in-Bad.is) ∙ good-on (goal.at.returns-in-Bad c).In_ok-n in let y : ◌≡◌ {A = ℕ} 0 1 = cc in omega arith)

pub shape_of-out-in-End : goal.shape_of-out-in-End
shape_of-out-in-End c = rest-same (run (goal.at.shape_of-out-in-End c).In_ok-n).left

pub returns-in-End : goal.returns-in-End
returns-in-End c = rest-done (end-plain _ _ _ c.next_char.ensures c.in-End.is) (run (goal.at.returns-in-End c).In_ok-n).left
