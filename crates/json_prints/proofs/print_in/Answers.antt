use borrow.Author.Rules.{rules}
use native.Mathlib.Omega.{arith}
use mathlib.Core.Path.{subst}
use mathlib.Core.Bool.{false}
use Prim.Native.Nat.{◌≤◌}
use Rattle.json_prints.specs.Prints.{Absent}
use Rattle.json_prints.proofs.Prints.{absent_none, absent-next}
use Rattle.json_prints.proofs.print_in.Goals as goal

pub loop-k-init : goal.loop-k-init
loop-k-init c = (search rules, search rules, absent_none c.args.prints.now c.args.p c.args.from)

pub returns-then-prints-k : goal.returns-then-prints-k
returns-then-prints-k c = c.loop-k.invariant

pub loop-k-preserved : goal.loop-k-preserved
loop-k-preserved c =
    let args = c.args in
    let loop = c.loop-k in (
      omega (arith, loop.invariant.0),
      omega (arith, c.loop-k-test.true),
      absent-next args.prints.now args.p args.from loop.k loop.invariant.2 c.if-prints-k.false,
    )

pub returns : goal.returns
returns c =
    let args = c.args in
    subst (λ (n : _). (args.from ≤ n) × (n ≤ args.to) × Absent args.prints.now args.p args.from n false) (omega (arith, c.loop-k.invariant.1, c.loop-k-test.false))
    c.loop-k.invariant
