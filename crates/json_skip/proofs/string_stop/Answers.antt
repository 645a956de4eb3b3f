use mathlib.Core.Path.{refl, ◌∙◌}
use native.Mathlib.Omega.{arith}
use Rattle.json_skip.proofs.Steps.{string-none, string-end, string-plain, string-escape, string-short}
use Rattle.json_skip.proofs.string_stop.Goals as goal

pub loop-i-init : goal.loop-i-init
loop-i-init c = (omega arith, c.requires, refl)

pub loop-i-smaller-then-b-gt92 : goal.loop-i-smaller-then-b-gt92
loop-i-smaller-then-b-gt92 c = omega (arith, c.loop-i-test.true)

pub loop-i-preserved-then-b-gt92 : goal.loop-i-preserved-then-b-gt92
loop-i-preserved-then-b-gt92 c = (
  omega (arith, c.loop-i.invariant.0),
  omega (arith, c.loop-i-test.true),
  c.loop-i.invariant.2
      ∙ string-plain _ _ c.loop-i-test.true (λ q. omega (arith, c.if-b-gt92.true, q)) (λ q. omega (arith, c.if-b-gt92.true, q)),
)

pub returns-then-b-eq34 : goal.returns-then-b-eq34
returns-then-b-eq34 c = record {
  is = c.loop-i.invariant.2
      ∙ string-end _ _ c.loop-i-test.true c.if-b-eq34.true;
  from = omega (arith, c.loop-i.invariant.0);
  to = omega (arith, c.loop-i-test.true);
}

pub returns-then-s-i-lt2 : goal.returns-then-s-i-lt2
returns-then-s-i-lt2 c = record {
  is = c.loop-i.invariant.2
      ∙ string-short _ _ c.loop-i-test.true c.if-b-eq92.true (omega (arith, c.if-s-i-lt2.true));
  from = omega (arith, c.loop-i.invariant.0, c.loop-i-test.true);
  to = omega arith;
}

pub loop-i-smaller-then-b-eq92 : goal.loop-i-smaller-then-b-eq92
loop-i-smaller-then-b-eq92 c = omega (arith, c.loop-i-test.true, c.if-s-i-lt2.false)

pub loop-i-preserved-then-b-eq92 : goal.loop-i-preserved-then-b-eq92
loop-i-preserved-then-b-eq92 c = (
  omega (arith, c.loop-i.invariant.0),
  omega (arith, c.if-s-i-lt2.false),
  c.loop-i.invariant.2
      ∙ string-escape _ _ c.loop-i-test.true c.if-b-eq92.true (omega (arith, c.if-s-i-lt2.false)),
)

pub loop-i-smaller : goal.loop-i-smaller
loop-i-smaller c = omega (arith, c.loop-i-test.true)

pub loop-i-preserved : goal.loop-i-preserved
loop-i-preserved c = (
  omega (arith, c.loop-i.invariant.0),
  omega (arith, c.loop-i-test.true),
  c.loop-i.invariant.2
      ∙ string-plain _ _ c.loop-i-test.true c.if-b-eq34.false c.if-b-eq92.false,
)

pub returns : goal.returns
returns c = record {
  is = c.loop-i.invariant.2 ∙ string-none c.args.s.now c.loop-i.i c.loop-i-test.false;
  from = c.loop-i.invariant.0;
  to = c.loop-i.invariant.1;
}
