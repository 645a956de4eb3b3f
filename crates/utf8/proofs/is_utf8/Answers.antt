use native.Mathlib.Omega.{arith}
use mathlib.Core.Path.{refl, ◌∙◌}
use Rattle.utf8.proofs.Steps.{one-as, utf8-all, utf8-not}
use Rattle.utf8.proofs.is_utf8.Goals as goal

pub loop-i-init : goal.loop-i-init
loop-i-init c = (omega arith, refl)

pub returns-then-a-s : goal.returns-then-a-s
returns-then-a-s c = utf8-all c.args.s.now _ (c.loop-i.invariant.1 ∙ c.ascii_end-a.ensures.2) c.if-a-s.true

pub loop-i-smaller : goal.loop-i-smaller
loop-i-smaller c = let o = one-as c.args.s.now c.ascii_end-a.result c.character_end.ensures c.in-Ok.is in omega (arith, c.ascii_end-a.ensures.0)

pub loop-i-preserved : goal.loop-i-preserved
loop-i-preserved c =
    let s = c.args.s.now in
    let o = one-as s c.ascii_end-a.result c.character_end.ensures c.in-Ok.is in
    (o.1, c.loop-i.invariant.1 ∙ c.ascii_end-a.ensures.2 ∙ o.2)

pub returns-in-Err : goal.returns-in-Err
returns-in-Err c =
    let s = c.args.s.now in
    utf8-not s c.ascii_end-a.result (c.loop-i.invariant.1 ∙ c.ascii_end-a.ensures.2)
    (one-as s c.ascii_end-a.result c.character_end.ensures c.in-Err.is)
