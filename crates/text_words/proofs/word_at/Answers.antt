use Prim.Native.Nat.{◌+◌}
use native.Mathlib.Omega.{arith}
use Rattle.text_words.proofs.Loads.{below-four, loaded-eight}
use Rattle.text_words.proofs.word_at.Goals as goal

pub overflow_mul-result : goal.overflow_mul-result
overflow_mul-result c =
    let args = c.args in
    omega (arith, below-four args.s.now (args.at + 4) c.half_at-2.result 0 c.half_at-2.ensures)

pub overflow_add-result : goal.overflow_add-result
overflow_add-result c =
    let args = c.args in
    omega (arith, below-four args.s.now (args.at + 4) c.half_at-2.result 0 c.half_at-2.ensures, below-four args.s.now args.at c.half_at.result 0 c.half_at.ensures)

pub returns : goal.returns
returns c =
    let args = c.args in
    loaded-eight args.s.now args.at c.half_at.result c.half_at-2.result c.half_at.ensures c.half_at-2.ensures
