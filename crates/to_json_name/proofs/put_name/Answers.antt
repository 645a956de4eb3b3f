use Rattle.output.proofs.Laws.{puts-as, start, done}
use Rattle.to_json_name.proofs.Names.{name-some, name-none}
use Rattle.to_json_name.proofs.put_name.Goals as goal

pub put_name_member-requires : goal.put_name_member-requires
put_name_member-requires c = c.requires

pub returns-then-full-parts : goal.returns-then-full-parts
returns-then-full-parts c =
    puts-as (name-some c.args.full c.args.fv.now c.args.parts c.args.nv.now c.requires c.if-full-parts.true) c.put_name_member.ensures

pub returns : goal.returns
returns c = puts-as (name-none c.args.full c.args.fv.now c.args.parts c.args.nv.now c.if-full-parts.false) (done (start _))
