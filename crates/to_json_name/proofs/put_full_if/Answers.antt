use Rattle.output.proofs.Laws.{puts-as, start, done}
use Rattle.to_json_name.proofs.Names.{full-on, full-off}
use Rattle.to_json_name.proofs.put_full_if.Goals as goal

pub put_full-requires : goal.put_full-requires
put_full-requires c = c.requires c.if-full.true

pub returns-then-full : goal.returns-then-full
returns-then-full c = puts-as (full-on c.args.full c.args.v.now c.if-full.true) c.put_full.ensures

pub returns : goal.returns
returns c = puts-as (full-off c.args.full c.args.v.now c.if-full.false) (done (start _))
