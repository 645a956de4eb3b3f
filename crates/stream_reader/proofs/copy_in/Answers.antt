use mathlib.Core.Path.{ap}
use Prim.Native.Nat.{ℕ}
use Rattle.stream_reader.proofs.Laws.{store-none, store-turn, store-end}
use Rattle.stream_reader.specs.Machine.{store_all}
use lib.ListN.{get_or, length-set}
use native.Mathlib.Omega.{arith}
use Prim.Native.Nat.{◌+◌}
use mathlib.Core.Path.{◌≡◌, refl, sym, ◌∙◌}
use Rattle.stream_reader.proofs.copy_in.Goals as goal

pub returns-then-at-room : goal.returns-then-at-room
returns-then-at-room c = sym (store-none c.args.src.now c.args.at c.args.card.now (omega (arith, c.least-room.ensures, c.if-at-room.true)))

pub overflow_sub-room : goal.overflow_sub-room
overflow_sub-room c = omega arith

pub loop-j-init : goal.loop-j-init
loop-j-init c =
    let e : c.args.at + 0 ≡ c.args.at = omega arith in
    (omega arith, refl, ap (λ (k : ℕ). store_all k c.args.card.now c.args.src.now) e)

pub bounds-src-j : goal.bounds-src-j
bounds-src-j c = omega (arith, c.least-n.ensures)

pub overflow_add-card : goal.overflow_add-card
overflow_add-card c = omega (arith, c.least-room.ensures, c.least-n.ensures, c.if-at-room.false)

pub bounds-card-at : goal.bounds-card-at
bounds-card-at c = omega (arith, c.least-room.ensures, c.least-n.ensures, c.if-at-room.false, c.loop-j.invariant.1)

pub loop-j-preserved : goal.loop-j-preserved
loop-j-preserved c =
    let args = c.args in
    let least = c.least-room in
    let if1 = c.if-at-room in
    let least2 = c.least-n in
    let loop = c.loop-j in (
      omega arith,
      length-set loop.card (args.at + loop.j) (get_or args.src.now loop.j 0) ∙ loop.invariant.1,
      sym (store-turn loop.card args.src.now args.at loop.j (omega (arith, least2.ensures)) (omega (arith, least.ensures, least2.ensures, if1.false, loop.invariant.1))) ∙ loop.invariant.2,
    )

pub shape_of-card : goal.shape_of-card
shape_of-card c = c.loop-j.invariant.1

pub returns : goal.returns
returns c =
    let args = c.args in
    let least = c.least-room in
    let if1 = c.if-at-room in
    let loop = c.loop-j in
    sym
    (store-end loop.card args.src.now args.at loop.j
    (λ h. omega (arith, h, least.ensures, c.least-n.ensures, if1.false, loop.invariant.1, c.loop-j-test.false)))
    ∙ loop.invariant.2
