use mathlib.Core.Path.{refl, ◌∙◌}
use native.Mathlib.Omega.{arith}
use Rattle.json_skip.proofs.Steps.{string-none, string-end, string-escape, string-short}
use Rattle.json_skip.proofs.Soft.{Paused, hard, paused}
use Rattle.json_skip.proofs.value_stop.Goals as goal
use Rattle.json_skip.proofs.value_stop.Goals.{After-soft_end-e}

-- where the run ended
here : (c : After-soft_end-e) → Paused c.args.s.now c.args.at c.soft_end-e.result
here c = paused _ _ c.loop-at.i _ c.loop-at.invariant c.soft_end-e.ensures

pub loop-at-init : goal.loop-at-init
loop-at-init c = (omega arith, c.requires, refl)

pub returns-then-e-s : goal.returns-then-e-s
returns-then-e-s c = let h = here (goal.at.returns-then-e-s c).After-soft_end-e in record { is = h.same ∙ string-none _ _ c.if-e-s.true; from = h.from; to = h.to }

pub bounds-s-e : goal.bounds-s-e
bounds-s-e c = omega (arith, c.if-e-s.false)

pub overflow_add-result : goal.overflow_add-result
overflow_add-result c = omega (arith, c.if-e-s.false)

pub returns-then-s-e-eq34 : goal.returns-then-s-e-eq34
returns-then-s-e-eq34 c =
    let inside = c.if-e-s.false in
    let h = here (goal.at.returns-then-s-e-eq34 c).After-soft_end-e in
    record { is = h.same ∙ string-end _ _ inside c.if-s-e-eq34.true; from = omega (arith, h.from); to = omega (arith, inside) }

pub overflow_sub-s : goal.overflow_sub-s
overflow_sub-s c = omega (arith, c.if-e-s.false)

pub returns-then-s-e-lt2 : goal.returns-then-s-e-lt2
returns-then-s-e-lt2 c =
    let inside = c.if-e-s.false in
    let h = here (goal.at.returns-then-s-e-lt2 c).After-soft_end-e in
    record {
      is = h.same ∙ string-short _ _ inside (hard _ (h.stops inside) c.if-s-e-eq34.false) (omega (arith, c.if-s-e-lt2.true));
      from = omega (arith, h.from, inside);
      to = omega arith;
    }

pub overflow_add-i : goal.overflow_add-i
overflow_add-i c = omega (arith, c.if-e-s.false, c.if-s-e-lt2.false)

pub loop-at-smaller : goal.loop-at-smaller
loop-at-smaller c =
    omega (arith, c.soft_end-e.ensures, c.if-e-s.false, c.if-s-e-lt2.false)

pub loop-at-preserved : goal.loop-at-preserved
loop-at-preserved c =
    let inside = c.if-e-s.false in
    let h = here (goal.at.loop-at-preserved c).After-soft_end-e in (
      omega (arith, h.from),
      omega (arith, inside, c.if-s-e-lt2.false),
      h.same ∙ string-escape _ _ inside (hard _ (h.stops inside) c.if-s-e-eq34.false) (omega (arith, c.if-s-e-lt2.false)),
    )
