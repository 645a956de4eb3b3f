use native.Mathlib.Omega.{arith}
use mathlib.Core.Path.{◌≡◌, ap, ◌∙◌}
use Prim.Native.Nat.{ℕ, ◌+◌, ◌-◌, ◌<◌}
use lib.ListN.{drop}
use Rattle.text.specs.Utf8.{at_start, tails, run}
use Rattle.utf8.proofs.Steps.{tail-met, tail-bad}
use Rattle.utf8.proofs.tails_end.Goals as goal
use Rattle.utf8.proofs.tails_end.Goals.{In-loop-i}

-- how many tails are left
abbrev left : In-loop-i → ℕ
left c = c.args.at + c.args.n - c.loop-i.i

some-left : (c : In-loop-i) → 0 < left c
some-left c = omega (arith, c.loop-i-test.true)

pub loop-i-init : goal.loop-i-init
loop-i-init c =
    let z : c.args.n ≡ c.args.at + c.args.n - c.args.at = omega arith in
    (c.requires, ap (λ k. run (tails k) (drop c.args.at c.args.s.now)) z)

pub returns-then-not-is_next : goal.returns-then-not-is_next
returns-then-not-is_next c =
    let l = (goal.at.returns-then-not-is_next c).In-loop-i in
    ap at_start c.loop-i.invariant.1 ∙ tail-bad c.args.s.now c.loop-i.i (left l) (some-left l) c.is_next.ensures c.if-not-is_next.true

pub loop-i-preserved : goal.loop-i-preserved
loop-i-preserved c =
    let l = (goal.at.loop-i-preserved c).In-loop-i in
    let s = c.args.s.now in
    let m = tail-met s c.loop-i.i (left l) (some-left l) c.is_next.ensures c.if-not-is_next.false in
    let z : left l - 1 ≡ c.args.at + c.args.n - (c.loop-i.i + 1) = omega arith in
    (omega (arith, m.0), c.loop-i.invariant.1 ∙ m.1 ∙ ap (λ k. run (tails k) (drop (c.loop-i.i + 1) s)) z)

pub returns : goal.returns
returns c =
    let i = c.loop-i.i in
    let e : i ≡ c.args.at + c.args.n = omega (arith, c.loop-i-test.false, c.loop-i.auto.i-end (omega arith)) in
    let z : c.args.at + c.args.n - i ≡ 0 = omega arith in (
      omega arith,
      omega (arith, e, c.loop-i.invariant.0),
      c.loop-i.invariant.1 ∙ ap (λ k. run (tails k) (drop i c.args.s.now)) z ∙ ap (λ k. run (tails 0) (drop k c.args.s.now)) e,
    )
