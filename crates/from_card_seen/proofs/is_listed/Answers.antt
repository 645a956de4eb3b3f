use mathlib.Core.Path.{refl, sym, ◌∙◌}
use native.Mathlib.Omega.{arith}
use Rattle.from_card_seen.proofs.Keys.{used-none, used-here, used-later}
use Rattle.from_card_seen.proofs.is_listed.Goals as goal

pub loop-k-init : goal.loop-k-init
loop-k-init c = refl

pub returns-then-is_id : goal.returns-then-is_id
returns-then-is_id c =
    sym (used-here c.args.bytes.now c.args.ids.now c.args.i c.args.key.now c.loop-k.k c.loop-k-test.true c.is_id.result c.is_id.ensures c.if-is_id.true) ∙ c.loop-k.invariant

pub loop-k-preserved : goal.loop-k-preserved
loop-k-preserved c =
    sym (used-later c.args.bytes.now c.args.ids.now c.args.i c.args.key.now c.loop-k.k c.loop-k-test.true c.is_id.result c.is_id.ensures c.if-is_id.false) ∙ c.loop-k.invariant

pub returns : goal.returns
returns c =
    sym (used-none c.args.bytes.now c.args.ids.now c.args.i c.args.key.now c.loop-k.k (omega (arith, c.loop-k-test.false))) ∙ c.loop-k.invariant
