use Prim.Native.Nat.{◌+◌}
use native.Mathlib.Omega.{arith}
use Rattle.text_words.proofs.Loads.{loaded-two}
use Rattle.text_words.proofs.pair_at.Goals as goal

pub overflow_mul-result : goal.overflow_mul-result
overflow_mul-result c = omega (arith, c.wide-2.ensures, c.type_inv.s (c.args.at + 1))

pub overflow_add-result : goal.overflow_add-result
overflow_add-result c =
    let at = c.args.at in
    omega (arith, c.wide-2.ensures, c.wide.ensures, c.type_inv.s at, c.type_inv.s (at + 1))

pub returns : goal.returns
returns c =
    let args = c.args in
    loaded-two args.s.now args.at c.wide.result c.wide-2.result c.wide.ensures c.wide-2.ensures (λ i. (c.type_inv.s i).fits)
