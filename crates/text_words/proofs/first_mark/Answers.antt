use mathlib.Core.Path.{ap, ◌∙◌}
use Prim.Native.Nat.{ℕ, ◌/◌}
use native.Mathlib.Omega.{arith}
use lib.Count.{count_trailing_zeros, trailing_le}
use Rattle.text_words.proofs.Firsts.{first_of}
use Rattle.text_words.proofs.first_mark.Goals as goal

pub overflow_cast-result : goal.overflow_cast-result
overflow_cast-result c = omega (arith, trailing_le 64 c.args.m)

pub returns : goal.returns
returns c p e = ap (λ (x : ℕ). count_trailing_zeros 64 x / 8) e ∙ first_of p
