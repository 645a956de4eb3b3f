use Rattle.output.proofs.Laws.{puts-as, start, done}
use Rattle.to_json_kept.proofs.Whole.{group_empty, group-filled}
use Rattle.to_json_kept.proofs.put_group.Goals as goal

pub returns-then-g-eq0 : goal.returns-then-g-eq0
returns-then-g-eq0 c = puts-as (group_empty c.args.g.now c.if-g-eq0.true) (done (start _))

pub returns : goal.returns
returns c = puts-as (group-filled c.args.g.now c.if-g-eq0.false) c.put_group_member.ensures
