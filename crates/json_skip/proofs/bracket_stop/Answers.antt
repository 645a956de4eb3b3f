use mathlib.Core.Path.{refl, sym, ap, ◌∙◌}
use native.Mathlib.Omega.{arith}
use Rattle.json_skip.specs.Skip.{outside, closed}
use Rattle.json_skip.proofs.Steps.{below-opens, below-shuts, brackets-none, brackets-string, brackets-open, brackets-last, brackets-shut, brackets-plain}
use Rattle.json_skip.proofs.bracket_stop.Goals as goal

pub loop-i-init : goal.loop-i-init
loop-i-init c = (omega arith, c.requires, omega arith, refl)

pub loop-i-smaller-then-b-eq34 : goal.loop-i-smaller-then-b-eq34
loop-i-smaller-then-b-eq34 c = omega (arith, c.loop-i-test.true, c.value_stop-i.ensures.from, c.value_stop-i.ensures.to)

pub loop-i-preserved-then-b-eq34 : goal.loop-i-preserved-then-b-eq34
loop-i-preserved-then-b-eq34 c = (
  omega (arith, c.loop-i.invariant.0, c.value_stop-i.ensures.from),
  c.value_stop-i.ensures.to,
  omega (arith, c.loop-i.invariant.2, c.value_stop-i.ensures.from),
  c.loop-i.invariant.3
      ∙ brackets-string _ _ _ c.loop-i-test.true c.if-b-eq34.true
      ∙ ap (closed outside c.loop-i.open) c.value_stop-i.ensures.is,
)

pub loop-i-smaller-then-b-lt91 : goal.loop-i-smaller-then-b-lt91
loop-i-smaller-then-b-lt91 c = omega (arith, c.loop-i-test.true)

pub loop-i-preserved-then-b-lt91 : goal.loop-i-preserved-then-b-lt91
loop-i-preserved-then-b-lt91 c = (
  omega (arith, c.loop-i.invariant.0),
  omega (arith, c.loop-i-test.true),
  omega (arith, c.loop-i.invariant.2),
  c.loop-i.invariant.3
      ∙ brackets-plain _ _ _ c.loop-i-test.true c.if-b-eq34.false (below-opens _ c.if-b-lt91.true) (below-shuts _ c.if-b-lt91.true),
)

pub loop-i-smaller-then-is_opening : goal.loop-i-smaller-then-is_opening
loop-i-smaller-then-is_opening c = omega (arith, c.loop-i-test.true)

pub loop-i-preserved-then-is_opening : goal.loop-i-preserved-then-is_opening
loop-i-preserved-then-is_opening c = (
  omega (arith, c.loop-i.invariant.0),
  omega (arith, c.loop-i-test.true),
  omega (arith, c.loop-i.invariant.2),
  c.loop-i.invariant.3
      ∙ brackets-open _ _ _ c.loop-i-test.true c.if-b-eq34.false (sym c.is_opening.ensures ∙ c.if-is_opening.true),
)

pub returns-then-open-eq0 : goal.returns-then-open-eq0
returns-then-open-eq0 c = record {
  is = c.loop-i.invariant.3
      ∙ brackets-last _ _ _ c.loop-i-test.true c.if-b-eq34.false (sym c.is_opening.ensures ∙ c.if-is_opening.false) (sym c.is_closing.ensures ∙ c.if-is_closing.true) c.if-open-eq0.true;
  from = omega (arith, c.loop-i.invariant.0);
  to = omega (arith, c.loop-i-test.true);
}

pub loop-i-smaller-then-is_closing : goal.loop-i-smaller-then-is_closing
loop-i-smaller-then-is_closing c = omega (arith, c.loop-i-test.true)

pub loop-i-preserved-then-is_closing : goal.loop-i-preserved-then-is_closing
loop-i-preserved-then-is_closing c = (
  omega (arith, c.loop-i.invariant.0),
  omega (arith, c.loop-i-test.true),
  omega (arith, c.loop-i.invariant.2),
  c.loop-i.invariant.3
      ∙ brackets-shut _ _ _ c.loop-i-test.true c.if-b-eq34.false (sym c.is_opening.ensures ∙ c.if-is_opening.false) (sym c.is_closing.ensures ∙ c.if-is_closing.true) c.if-open-eq0.false,
)

pub loop-i-smaller : goal.loop-i-smaller
loop-i-smaller c = omega (arith, c.loop-i-test.true)

pub loop-i-preserved : goal.loop-i-preserved
loop-i-preserved c = (
  omega (arith, c.loop-i.invariant.0),
  omega (arith, c.loop-i-test.true),
  omega (arith, c.loop-i.invariant.2),
  c.loop-i.invariant.3
      ∙ brackets-plain _ _ _ c.loop-i-test.true c.if-b-eq34.false (sym c.is_opening.ensures ∙ c.if-is_opening.false) (sym c.is_closing.ensures ∙ c.if-is_closing.false),
)

pub returns : goal.returns
returns c = record {
  is = c.loop-i.invariant.3 ∙ brackets-none c.args.s.now c.loop-i.open c.loop-i.i c.loop-i-test.false;
  from = c.loop-i.invariant.0;
  to = c.loop-i.invariant.1;
}
