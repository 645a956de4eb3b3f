use native.Mathlib.Omega.{arith}
use mathlib.Core.Path.{sym, ◌∙◌}
use Prim.Native.Nat.{◌<◌}
use lib.ListN.{length}
use Rattle.json_compact.proofs.Stands.{stands-none, stands-then, stands-byte}
use Rattle.json_compact.proofs.run_end.Goals as goal

pub loop-at-init : goal.loop-at-init
loop-at-init c = stands-none c.args.s.now c.args.at c.requires

pub look-b-requires : goal.look-b-requires
look-b-requires c = c.loop-at.invariant.within

pub returns-then-is_space : goal.returns-then-is_space
returns-then-is_space c = c.loop-at.invariant

pub returns-then-b-gt255 : goal.returns-then-b-gt255
returns-then-b-gt255 c = c.loop-at.invariant

pub overflow_add-i : goal.overflow_add-i
overflow_add-i c = omega (arith, c.look-b.ensures.1, c.if-b-gt255.false)

pub loop-at-smaller-then-b-ne-QUOTE : goal.loop-at-smaller-then-b-ne-QUOTE
loop-at-smaller-then-b-ne-QUOTE c = omega (arith, c.look-b.ensures.1, c.if-b-gt255.false)

pub loop-at-preserved-then-b-ne-QUOTE : goal.loop-at-preserved-then-b-ne-QUOTE
loop-at-preserved-then-b-ne-QUOTE c =
    let s = c.args.s.now in
    let look = c.look-b in
    let loop = c.loop-at in
    let within : loop.i < length s = omega (arith, look.ensures.1, c.if-b-gt255.false) in
    stands-then s loop.invariant (stands-byte s loop.i within look.result look.ensures.0 (omega (arith, c.if-b-gt255.false)) (sym c.is_space.ensures ∙ c.if-is_space.false) c.if-b-ne-QUOTE.true)

pub string_run-e-requires : goal.string_run-e-requires
string_run-e-requires c = record { at_in_bounds = omega (arith, c.look-b.ensures.1, c.if-b-gt255.false); at_value = sym c.look-b.ensures.0 ∙ c.if-b-ne-QUOTE.false }

pub returns-then-e-i : goal.returns-then-e-i
returns-then-e-i c = c.loop-at.invariant

pub loop-at-smaller : goal.loop-at-smaller
loop-at-smaller c = omega (arith, c.string_run-e.ensures.from, c.string_run-e.ensures.within, c.if-e-i.false)

pub loop-at-preserved : goal.loop-at-preserved
loop-at-preserved c = stands-then c.args.s.now c.loop-at.invariant c.string_run-e.ensures
