use native.Mathlib.Omega.{arith}
use Prim.Native.Nat.{◌-◌}
use Rattle.to_card_kept_entry.proofs.writing.Bytes.{stand-first, stand-on, stand-all}
use Rattle.to_card_kept_entry.proofs.writing.all_stand.Goals as goal

pub loop-i-init : goal.loop-i-init
loop-i-init c = (omega arith, stand-first c.args.style c.args.s.now)

pub loop-i-preserved : goal.loop-i-preserved
loop-i-preserved c = (omega (arith, c.loop-i-test.true), stand-on c.args.style c.args.s.now c.loop-i.invariant.1 c.loop-i-test.true c.can_stand-ok.ensures)

pub returns : goal.returns
returns c = stand-all c.args.style c.args.s.now c.loop-i.invariant.1 c.loop-i-test.false
