use Prim.Native.Nat.{◌+◌}
use native.Mathlib.Omega.{arith}
use native.Mathlib.Nat.{add-zero}
use mathlib.Core.Path.{◌≡◌, subst}
use borrow.Author.Rules.{rules}
use Rattle.utf8.specs.Met.{Alike}
use Rattle.utf8.proofs.Steps.{ascii_more}
use Rattle.utf8.proofs.has_wide.Goals as goal

pub loop-k-init : goal.loop-k-init
loop-k-init c = (search rules, λ e. rw (add-zero c.args.at))

pub loop-k-preserved : goal.loop-k-preserved
loop-k-preserved c = (search rules, ascii_more c.args.s.now c.args.at c.loop-k.k c.loop-k.found (search rules) c.loop-k.invariant.1)

pub returns : goal.returns
returns c = λ e. let n : c.loop-k.k ≡ 16 = omega arith in subst (λ m. Alike c.args.s.now c.args.at (c.args.at + m)) n (c.loop-k.invariant.1 e)
