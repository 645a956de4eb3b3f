use Prim.Native.Nat.{◌+◌}
use native.Mathlib.Omega.{arith}
use Rattle.text_words.proofs.Loads.{below_two, loaded-four}
use Rattle.text_words.proofs.half_at.Goals as goal

pub overflow_mul-result : goal.overflow_mul-result
overflow_mul-result c =
    let args = c.args in
    omega (arith, below_two args.s.now (args.at + 2) c.pair_at-2.result 0 c.pair_at-2.ensures)

pub overflow_add-result : goal.overflow_add-result
overflow_add-result c =
    let args = c.args in
    omega (arith, below_two args.s.now (args.at + 2) c.pair_at-2.result 0 c.pair_at-2.ensures, below_two args.s.now args.at c.pair_at.result 0 c.pair_at.ensures)

pub returns : goal.returns
returns c =
    let args = c.args in
    loaded-four args.s.now args.at c.pair_at.result c.pair_at-2.result c.pair_at.ensures c.pair_at-2.ensures
