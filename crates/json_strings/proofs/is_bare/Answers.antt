use native.Mathlib.Omega.{arith}
use borrow.Author.Tests.{eqb-false, ltb-false}
use Rattle.json_strings.proofs.Bare.{bare-told}
use Rattle.json_strings.proofs.is_bare.Goals as goal

pub returns : goal.returns
returns c = let b = c.args.b in bare-told b _ _ _ _ (eqb-false b 34) (eqb-false b 92) (ltb-false b 32) (λ e. omega (arith, ltb-false 255 b e))
