use borrow.Author.Rules.{rules}
use native.Mathlib.Omega.{arith}
use Prim.Native.Nat.{◌+◌}
use Rattle.json_prints.proofs.Prints.{absent-as, absent_none, absent-join}
use Rattle.json_prints.proofs.past_blocks.Goals as goal

pub loop-k-init : goal.loop-k-init
loop-k-init c = (search rules, search rules, absent_none c.args.prints.now c.args.p c.args.from)

pub overflow_sub-to : goal.overflow_sub-to
overflow_sub-to c = c.loop-k.invariant.1

pub overflow_add-e : goal.overflow_add-e
overflow_add-e c = omega (arith, c.loop-k-test.true, c.loop-k.invariant.1, c.requires.to_in_bounds)

pub any_print-requires : goal.any_print-requires
any_print-requires c = record { from_le_to = omega arith; to_in_bounds = omega (arith, c.loop-k-test.true, c.loop-k.invariant.1, c.requires.to_in_bounds) }

pub returns-then-any_print : goal.returns-then-any_print
returns-then-any_print c = c.loop-k.invariant

pub loop-k-smaller : goal.loop-k-smaller
loop-k-smaller c = omega (arith, c.loop-k-test.true, c.loop-k.invariant.1, c.requires.size_nonzero)

pub loop-k-preserved : goal.loop-k-preserved
loop-k-preserved c =
    let args = c.args in
    let k = c.loop-k.k in
    let fs = args.prints.now in (
      omega (arith, c.loop-k.invariant.0),
      omega (arith, c.loop-k-test.true, c.loop-k.invariant.1),
      absent-join fs args.p args.from k (k + args.size) c.loop-k.invariant.2
          (absent-as fs args.p k (k + args.size) c.any_print.ensures c.if-any_print.false),
    )

pub returns : goal.returns
returns c = c.loop-k.invariant
