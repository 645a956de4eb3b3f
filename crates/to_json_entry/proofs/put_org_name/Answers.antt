use Rattle.output.proofs.Laws.{puts-as, start, done}
use Rattle.to_json_entry.proofs.Org.{name-empty, name-filled}
use Rattle.to_json_entry.proofs.put_org_name.Goals as goal

pub returns-then-u-eq0 : goal.returns-then-u-eq0
returns-then-u-eq0 c = puts-as (name-empty c.args.i c.args.u.now c.if-u-eq0.true) (done (start _))

pub put_string_member-requires : goal.put_string_member-requires
put_string_member-requires c = c.requires

pub returns : goal.returns
returns c = puts-as (name-filled c.args.i c.args.u.now c.if-u-eq0.false) c.put_string_member.ensures
