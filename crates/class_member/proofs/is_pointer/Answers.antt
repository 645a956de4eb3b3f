use mathlib.Core.Path.{sym, ◌∙◌}
use Rattle.class_member.proofs.Pointing.{point-on, point-off, point-end, point-none, point-some}
use Rattle.class_member.proofs.is_pointer.Goals as goal

pub returns-then-p-eq0 : goal.returns-then-p-eq0
returns-then-p-eq0 c = sym (point-none c.args.p.now c.if-p-eq0.true)

pub loop-c-init : goal.loop-c-init
loop-c-init c = point-some c.args.p.now c.if-p-eq0.false

pub returns-then-not-points_on : goal.returns-then-not-points_on
returns-then-not-points_on c =
    sym (point-off c.args.p.now c.loop-c.c-index
    c.loop-c.tilde c.loop-c-test.true (sym c.points_on.ensures ∙ c.if-not-points_on.true)) ∙
    c.loop-c.invariant

pub loop-c-preserved : goal.loop-c-preserved
loop-c-preserved c =
    sym (point-on c.args.p.now c.loop-c.c-index
    c.loop-c.tilde c.loop-c-test.true (sym c.points_on.ensures ∙ c.if-not-points_on.false)) ∙
    c.loop-c.invariant

pub returns : goal.returns
returns c = sym (point-end c.args.p.now c.loop-c.c-index c.loop-c.tilde c.loop-c-test.false) ∙ c.loop-c.invariant
