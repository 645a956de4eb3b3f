use Rattle.output.proofs.Laws.{puts-as, start, done}
use Rattle.to_json_head.proofs.Uids.{kind-none, kind-some}
use Rattle.to_json_head.proofs.put_kind.Goals as goal

pub returns-then-v-eq0 : goal.returns-then-v-eq0
returns-then-v-eq0 c = puts-as (kind-none c.args.v.now c.if-v-eq0.true) (done (start _))

pub returns : goal.returns
returns c = puts-as (kind-some c.args.v.now c.if-v-eq0.false) c.put_kind_member.ensures
