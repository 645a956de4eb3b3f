use mathlib.Core.Path.{subst}
use mathlib.Core.Bool.{Bool}
use Rattle.to_card_head.specs.Head.{TellsFilled}
use Rattle.to_card_parts.proofs.Passes.{marks-none, marks-one}
use Rattle.to_card_parts.proofs.mark_kind.Goals as goal

pub returns-then-not-is_filled : goal.returns-then-not-is_filled
returns-then-not-is_filled c =
    let args = c.args in
    marks-none args.s.now args.value args.kind args.marks.now
    (subst (λ (b : Bool). TellsFilled args.s.now args.value b) c.if-not-is_filled.true c.is_filled.ensures)

pub returns : goal.returns
returns c =
    let args = c.args in
    marks-one args.s.now args.value args.kind args.marks.now
    (subst (λ (b : Bool). TellsFilled args.s.now args.value b) c.if-not-is_filled.false c.is_filled.ensures)
