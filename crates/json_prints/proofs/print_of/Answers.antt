use Prim.Native.Nat.{◌+◌}
use mathlib.Core.Path.{refl, sym, ap, ◌∙◌}
use native.Mathlib.Omega.{arith}
use lib.ListN.{drop}
use Rattle.json_prints.specs.Prints.{printed}
use Rattle.json_prints.proofs.Prints.{printed-on, printed-end}
use Rattle.json_prints.proofs.print_of.Goals as goal

pub overflow_cast-p : goal.overflow_cast-p
overflow_cast-p c = omega (arith, c.requires)

pub loop-b-init : goal.loop-b-init
loop-b-init c = (omega (arith, c.requires), refl)

pub stirred-p-requires : goal.stirred-p-requires
stirred-p-requires c = c.loop-b.invariant.0

pub loop-b-preserved : goal.loop-b-preserved
loop-b-preserved c = (
  c.stirred-p.ensures.upper_bound,
  ap (λ q. printed q (drop (c.loop-b.b-index + 1) c.args.key.now)) c.stirred-p.ensures.value ∙ sym
      (printed-on c.args.key.now c.loop-b.p c.loop-b.b-index c.loop-b-test.true) ∙ c.loop-b.invariant.1,
)

pub overflow_cast-result : goal.overflow_cast-result
overflow_cast-result c = omega (arith, c.loop-b.invariant.0)

pub returns : goal.returns
returns c = sym (printed-end c.args.key.now c.loop-b.p c.loop-b.b-index (omega (arith, c.loop-b-test.false))) ∙ c.loop-b.invariant.1
