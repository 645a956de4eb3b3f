use Rattle.output.proofs.Laws.{puts-as, start, done}
use Rattle.to_json_name.proofs.Names.{parts-there, parts-off}
use Rattle.to_json_name.proofs.put_parts_if.Goals as goal

pub put_parts_member-requires : goal.put_parts_member-requires
put_parts_member-requires c = c.requires c.if-parts.true

pub returns-then-parts : goal.returns-then-parts
returns-then-parts c = puts-as (parts-there c.args.full c.args.parts c.args.v.now c.if-parts.true) c.put_parts_member.ensures

pub returns : goal.returns
returns c = puts-as (parts-off c.args.full c.args.parts c.args.v.now c.if-parts.false) (done (start _))
