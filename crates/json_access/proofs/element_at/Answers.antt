use native.Mathlib.Omega.{arith}
use lib.ListN.{drop}
use Rattle.json_marks.proofs.Laws.{skip-to}
use Rattle.json_access.proofs.Laws.{stands}
use Rattle.json_access.proofs.Past.{element-past}
use Rattle.json_access.proofs.element_at.Goals as goal

pub returns-then-at-s : goal.returns-then-at-s
returns-then-at-s c = record {
  inside = record { from = λ l. absurd (omega (arith, c.if-at-s.true)); ordered = omega arith; end-in = omega arith };
  tells_element = element-past c.args.s.now c.args.at c.if-at-s.true c.args.depth _;
}

pub returns : goal.returns
returns c =
    let args = c.args in
    let skip-space = c.skip_space-a in record {
      inside = record { from = λ l. skip-space.ensures.from; ordered = c.skip_value-e.ensures.lower_bound.0 skip-space.ensures.to; end-in = c.skip_value-e.ensures.lower_bound.1 };
      tells_element = stands args.depth args.s.now (drop args.at args.s.now) (skip-to skip-space.ensures) skip-space.ensures.to c.skip_value-e.ensures.lower_bound.1 (c.skip_value-e.ensures.skips args.depth);
    }
