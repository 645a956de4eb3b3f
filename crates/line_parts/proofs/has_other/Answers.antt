use mathlib.Core.Path.{refl, sym, ◌∙◌}
use borrow.Author.Rules.{rules}
use Rattle.line_class.proofs.Runs.{any_here, any-later, any_none}
use Rattle.line_parts.specs.Parts.{other_than}
use Rattle.line_parts.proofs.has_other.Goals as goal

pub loop-c-init : goal.loop-c-init
loop-c-init c = (search rules, refl)

pub returns-then-c-d : goal.returns-then-c-d
returns-then-c-d c =
    sym (any_here (other_than c.args.d c.args.e) c.args.s.now
    c.loop-c.c-index c.loop-c-test.true c.if-c-d.true) ∙ c.loop-c.invariant.1

pub loop-c-preserved : goal.loop-c-preserved
loop-c-preserved c = (
  search rules,
  sym (any-later (other_than c.args.d c.args.e)
      c.args.s.now c.loop-c.c-index c.loop-c-test.true c.if-c-d.false) ∙
      c.loop-c.invariant.1,
)

pub returns : goal.returns
returns c =
    sym (any_none (other_than c.args.d c.args.e) c.args.s.now c.loop-c.c-index c.loop-c-test.false) ∙
    c.loop-c.invariant.1
