use Rattle.output.proofs.Laws.{puts-as}
use Rattle.to_json_sections.proofs.Props.{head-begun, head_first}
use Rattle.to_json_sections.proofs.put_prop_head.Goals as goal

pub returns-then-begun : goal.returns-then-begun
returns-then-begun c = puts-as (head-begun c.args.begun c.if-begun.true) c.put_byte.ensures

pub returns : goal.returns
returns c = puts-as (head_first c.args.begun c.if-begun.false) c.put_text.ensures
