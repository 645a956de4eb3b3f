use mathlib.Core.Path.{ap}
use mathlib.Core.Bool.{not}
use borrow.Author.Rules.{rules}
use native.Mathlib.Omega.{arith}
use Rattle.json_strings.proofs.Bare.{bare-taken, copied_none, copied-one}
use Rattle.json_strings.proofs.copy_from.Goals as goal

pub loop-out-init : goal.loop-out-init
loop-out-init c = copied_none c.args.s.now c.args.at 0 _ (search rules)

pub shape_of-out-then-n-out : goal.shape_of-out-then-n-out
shape_of-out-then-n-out c = c.loop-out.invariant.so.same

pub returns-then-n-out : goal.returns-then-n-out
returns-then-n-out c = c.loop-out.invariant

pub overflow_add-at : goal.overflow_add-at
overflow_add-at c = omega (arith, c.loop-out.invariant.within)

pub look-b-requires : goal.look-b-requires
look-b-requires c = c.loop-out.invariant.within

pub shape_of-out-then-not-is_bare : goal.shape_of-out-then-not-is_bare
shape_of-out-then-not-is_bare c = c.loop-out.invariant.so.same

pub returns-then-not-is_bare : goal.returns-then-not-is_bare
returns-then-not-is_bare c = c.loop-out.invariant

pub overflow_cast-out : goal.overflow_cast-out
overflow_cast-out c = omega (arith, (bare-taken c.look-b.result c.is_bare.result c.is_bare.ensures (ap not c.if-not-is_bare.false)).1)

pub bounds-out-n : goal.bounds-out-n
bounds-out-n c = omega (arith, c.if-n-out.false)

pub overflow_add-n : goal.overflow_add-n
overflow_add-n c = omega (arith, c.if-n-out.false)

pub loop-out-smaller : goal.loop-out-smaller
loop-out-smaller c = omega (arith, c.if-n-out.false, c.loop-out.invariant.so.same)

pub loop-out-preserved : goal.loop-out-preserved
loop-out-preserved c =
    let args = c.args in
    let look = c.look-b in
    let w = bare-taken look.result c.is_bare.result c.is_bare.ensures (ap not c.if-not-is_bare.false) in
    copied-one args.s.now args.at c.loop-out.invariant look.result look.ensures.0 w (omega (arith, w.1, look.ensures.1)) c.if-n-out.false
