use Rattle.line_frame.proofs.Physical.{cr-ends, lf-from, lf-within, line-lf, line-last, CrEnds}
use Rattle.line_frame.proofs.next_line.Goals as goal
use Rattle.line_frame.proofs.next_line.Goals.{After-before_cr-end}

ended : (c : After-before_cr-end) → CrEnds c.args.s.now c.args.at c.lf_at-lf.result c.before_cr-end.result
ended c =
    cr-ends c.args.s.now c.args.at _ _ (lf-from c.args.s.now c.args.at _ c.lf_at-lf.ensures)
    (lf-within c.args.s.now c.args.at _ c.lf_at-lf.ensures c.requires)
    c.before_cr-end.ensures

pub before_cr-end-requires : goal.before_cr-end-requires
before_cr-end-requires c = lf-within c.args.s.now c.args.at _ c.lf_at-lf.ensures c.requires

pub returns-then-lf-s : goal.returns-then-lf-s
returns-then-lf-s c = line-lf c.args.s.now c.args.at _ _ c.requires c.lf_at-lf.ensures c.if-lf-s.true (ended (goal.at.returns-then-lf-s c).After-before_cr-end)

pub returns : goal.returns
returns c = line-last c.args.s.now c.args.at _ _ c.requires c.lf_at-lf.ensures c.if-lf-s.false (ended (goal.at.returns c).After-before_cr-end)
