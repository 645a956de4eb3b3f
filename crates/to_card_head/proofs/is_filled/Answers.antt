use Rattle.to_card_head.proofs.Words.{filled-past, filled-alone, filled-end, filled-one}
use Rattle.to_card_head.proofs.is_filled.Goals as goal

pub returns-then-at-s : goal.returns-then-at-s
returns-then-at-s c = filled-past c.args.s.now c.args.at c.if-at-s.true

pub returns-in-Alone : goal.returns-in-Alone
returns-in-Alone c = filled-alone c.args.s.now c.args.at c.byte_at.result c.byte_at.ensures.0 c.in-Alone.is

pub returns-in-End : goal.returns-in-End
returns-in-End c = filled-end c.args.s.now c.args.at c.byte_at.result c.byte_at.ensures.0 c.in-End.is

pub returns-in-One : goal.returns-in-One
returns-in-One c = filled-one c.args.s.now c.args.at c.byte_at.result c.byte_at.ensures.0 c.in-One.is
