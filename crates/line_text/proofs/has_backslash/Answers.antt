use Prim.Native.Nat.{◌+◌}
use native.Mathlib.Omega.{arith}
use native.Mathlib.Nat.{add-zero}
use mathlib.Core.Path.{◌≡◌, subst}
use borrow.Author.Rules.{rules}
use Rattle.line_text.specs.Read.{Plain}
use Rattle.line_text.proofs.Plain.{plain-none, plain_more}
use Rattle.line_text.proofs.has_backslash.Goals as goal

pub loop-k-init : goal.loop-k-init
loop-k-init c = (search rules, λ e. rw (add-zero c.args.at) (plain-none c.args.s.now c.args.at))

pub loop-k-preserved : goal.loop-k-preserved
loop-k-preserved c = (search rules, plain_more c.args.s.now c.args.at c.loop-k.k c.loop-k.found c.loop-k.invariant.1)

pub returns : goal.returns
returns c = λ e. let n : c.loop-k.k ≡ 16 = omega arith in subst (λ m. Plain c.args.s.now c.args.at (c.args.at + m)) n (c.loop-k.invariant.1 e)
