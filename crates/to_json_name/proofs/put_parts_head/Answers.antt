use Rattle.output.proofs.Laws.{puts-as}
use Rattle.to_json_name.proofs.Names.{head-after, head_first}
use Rattle.to_json_name.proofs.put_parts_head.Goals as goal

pub returns-then-full : goal.returns-then-full
returns-then-full c = puts-as (head-after c.args.full c.if-full.true) c.put_text.ensures

pub returns : goal.returns
returns c = puts-as (head_first c.args.full c.if-full.false) c.put_text-2.ensures
