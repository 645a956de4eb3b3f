use native.Mathlib.Omega.{arith}
use mathlib.Core.Path.{ap, ◌∙◌}
use mathlib.Core.List.{[]}
use Prim.Native.Nat.{◌+◌, ◌-◌}
use lib.ListN.{drop, get_or}
use Rattle.text.specs.Bytes.{parts}
use Rattle.json_index.proofs.Names.{nth-this, nth-none, nth-next}
use Rattle.json_index.proofs.nth_name.Goals as goal

pub loop-init : goal.loop-init
loop-init c = (omega arith, omega arith, ap (λ j. get_or (parts 44 c.args.names.now) j []) (omega arith))

pub returns-then-e-names : goal.returns-then-e-names
returns-then-e-names c = record {
  ordered = omega arith;
  inside = omega arith;
  is = nth-none c.args.names.now c.loop.a c.name_stop-e.result c.name_stop-e.ensures (c.args.k - c.loop.counter) _ c.loop.invariant.2 (λ z. omega (arith, c.loop-test.true, z)) c.if-e-names.true;
}

pub loop-preserved : goal.loop-preserved
loop-preserved c =
    let e = c.name_stop-e.result in
    let next = nth-next c.args.names.now c.loop.a e c.name_stop-e.ensures (c.args.k - c.loop.counter) _ c.loop.invariant.2 (λ z. omega (arith, c.loop-test.true, z)) c.if-e-names.false in
    (omega (arith, c.if-e-names.false), omega (arith, c.loop-test.true), next ∙ ap (λ j. get_or (parts 44 (drop (e + 1) c.args.names.now)) j []) (omega (arith, c.loop-test.true)))

pub returns : goal.returns
returns c = record {
  ordered = c.name_stop.ensures.from;
  inside = c.name_stop.ensures.within c.loop.invariant.0;
  is = nth-this c.args.names.now c.loop.a c.name_stop.result c.name_stop.ensures (c.args.k - c.loop.counter) _ c.loop.invariant.2 (omega (arith, c.loop.invariant.1, c.loop-test.false));
}
