use mathlib.Core.Path.{sym}
use Rattle.from_card_refusals.proofs.Lines.{only_none, only-others, only-value}
use Rattle.from_card_refusals.proofs.only_uri.Goals as goal

pub returns-then-n-eq0 : goal.returns-then-n-eq0
returns-then-n-eq0 c = sym (only_none c.args.s.now c.args.t.now c.if-n-eq0.true)

pub returns-then-rows-n : goal.returns-then-rows-n
returns-then-rows-n c =
    sym (only-others c.args.s.now c.args.t.now c.requires.row c.if-n-eq0.false c.if-rows-n.true)

pub returns : goal.returns
returns c =
    sym (only-value c.args.s.now c.args.t.now c.requires.row c.if-n-eq0.false c.if-rows-n.false c.value_kind.result (c.value_kind.ensures _ c.requires.row))
