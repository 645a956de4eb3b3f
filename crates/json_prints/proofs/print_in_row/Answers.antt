use native.Mathlib.Omega.{arith}
use Prim.Native.Nat.{◌-◌}
use Rattle.json_prints.proofs.Prints.{Reached, reach-on, absent-as, absent-over}
use Rattle.json_prints.proofs.print_in_row.Goals as goal
use Rattle.json_prints.proofs.print_in_row.Goals.{After-past_blocks-c}

-- where no block has the print, up to the last one
past_all : (c : After-past_blocks-c) → Reached c.args.prints.now c.args.p c.args.from c.args.to c.past_blocks-c.result
past_all c =
    let args = c.args in
    let fs = args.prints.now in
    let two = reach-on fs args.p args.from args.to c.past_blocks-a.result c.past_blocks-b.result
    c.past_blocks-a.ensures c.past_blocks-b.ensures in
    reach-on fs args.p args.from args.to c.past_blocks-b.result c.past_blocks-c.result two c.past_blocks-c.ensures

pub returns-then-not-any_print : goal.returns-then-not-any_print
returns-then-not-any_print c =
    let args = c.args in
    let fs = args.prints.now in
    let was = past_all (goal.at.returns-then-not-any_print c).After-past_blocks-c in (
      omega (arith, was.0, was.1),
      omega arith,
      absent-over fs args.p args.from (args.to - 16) c.past_blocks-c.result args.to (omega (arith, c.if-to-c-lt16.true, was.1)) was.2
          (absent-as fs args.p (args.to - 16) args.to c.any_print.ensures c.if-not-any_print.true),
    )

pub returns : goal.returns
returns c =
    let args = c.args in
    reach-on args.prints.now args.p args.from args.to c.past_blocks-c.result c.print_in.result
    (past_all (goal.at.returns c).After-past_blocks-c) c.print_in.ensures
