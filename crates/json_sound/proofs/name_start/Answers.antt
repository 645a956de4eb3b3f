use native.Mathlib.Omega.{arith}
use mathlib.Core.Path.{refl}
use Prim.Native.Nat.{◌+◌}
use Rattle.json_sound.proofs.Starts.{PlainAt, plain_at, starts-on, starts-twice}
use Rattle.json_sound.proofs.name_start.Goals as goal
use Rattle.json_sound.proofs.name_start.Goals.{Else-not-is_raw, Else-not-is_raw-2}

-- two plain bytes
first : (c : Else-not-is_raw) → PlainAt c.args.s.now c.loop-at.i c.look-b.result
first c = plain_at c.args.s.now _ _ c.look-b.ensures c.is_raw.ensures c.if-not-is_raw.false

second : (c : Else-not-is_raw-2) → PlainAt c.args.s.now (c.loop-at.i + 1) c.look-c.result
second c = plain_at c.args.s.now _ _ c.look-c.ensures c.is_raw-in-loop-at.ensures c.if-not-is_raw-2.false

pub loop-at-init : goal.loop-at-init
loop-at-init c = (omega arith, omega arith, omega arith, refl, λ r x. x)

pub look-b-requires : goal.look-b-requires
look-b-requires c = c.loop-at.invariant.1

pub overflow_cast-result : goal.overflow_cast-result
overflow_cast-result c = omega (arith, c.loop-at.invariant.2)

pub returns-then-not-is_raw : goal.returns-then-not-is_raw
returns-then-not-is_raw c = c.loop-at.invariant

pub overflow_add-i : goal.overflow_add-i
overflow_add-i c = omega (arith, (first c).inside)

pub look-c-requires : goal.look-c-requires
look-c-requires c = omega (arith, (first c).inside)

pub overflow_cast-p : goal.overflow_cast-p
overflow_cast-p c = omega (arith, c.loop-at.invariant.2)

pub overflow_cast-b : goal.overflow_cast-b
overflow_cast-b c = omega (arith, (first (goal.at.overflow_cast-b c).Else-not-is_raw).small)

pub stirred-q-requires : goal.stirred-q-requires
stirred-q-requires c = c.loop-at.invariant.2

pub overflow_add-result : goal.overflow_add-result
overflow_add-result c = omega (arith, (first (goal.at.overflow_add-result c).Else-not-is_raw).inside)

pub returns-then-not-is_raw-2 : goal.returns-then-not-is_raw-2
returns-then-not-is_raw-2 c = starts-on _ _ _ _ _ _ c.loop-at.invariant (first (goal.at.returns-then-not-is_raw-2 c).Else-not-is_raw) c.stirred-q.ensures.value

pub overflow_cast-b-in-loop-at : goal.overflow_cast-b-in-loop-at
overflow_cast-b-in-loop-at c = omega (arith, (first (goal.at.overflow_cast-b-in-loop-at c).Else-not-is_raw).small)

pub overflow_cast-c : goal.overflow_cast-c
overflow_cast-c c = omega (arith, (second c).small)

pub overflow_add-i-in-loop-at : goal.overflow_add-i-in-loop-at
overflow_add-i-in-loop-at c = omega (arith, (second (goal.at.overflow_add-i-in-loop-at c).Else-not-is_raw-2).inside)

pub loop-at-smaller : goal.loop-at-smaller
loop-at-smaller c = omega (arith, (second (goal.at.loop-at-smaller c).Else-not-is_raw-2).inside)

pub loop-at-preserved : goal.loop-at-preserved
loop-at-preserved c = starts-twice _ _ _ _ _ _ _ c.loop-at.invariant (first (goal.at.loop-at-preserved c).Else-not-is_raw) (second (goal.at.loop-at-preserved c).Else-not-is_raw-2) c.stirred_twice-p.ensures
