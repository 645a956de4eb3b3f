use mathlib.Core.Path.{sym}
use native.Mathlib.Omega.{arith}
use lib.ListN.{length, drop}
use borrow.Author.Rules.{rules}
use borrow.Author.Tests.{le-leb, lt-leb}
use Rattle.line.specs.Text.{split_text}
use Rattle.line_parts.proofs.Counts.{parts-some, part-last, part-more}
use Rattle.line_parts.proofs.few_parts.Goals as goal

pub loop-init : goal.loop-init
loop-init c = (search rules, omega arith, search rules)

pub returns-then-e-s : goal.returns-then-e-s
returns-then-e-s c =
    sym (le-leb (length (split_text c.args.d c.args.s.now))
    c.args.n (omega (arith, c.loop.invariant.1, part-last c.part_end-e.ensures c.if-e-s.true)))

pub loop-preserved : goal.loop-preserved
loop-preserved c = (
  omega (arith, c.if-e-s.false),
  omega (arith, c.loop.invariant.1, part-more c.part_end-e.ensures (omega (arith, c.if-e-s.false))),
  omega
      (arith, c.loop-test.true),
)

pub returns : goal.returns
returns c =
    sym (lt-leb (length (split_text c.args.d c.args.s.now)) c.args.n
    (omega (arith, c.loop.invariant.1, c.loop-test.false, parts-some c.args.d (drop c.loop.at c.args.s.now))))
