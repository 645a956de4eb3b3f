use Rattle.output.proofs.Laws.{puts-as}
use Rattle.json_write.proofs.Spelling.{coded-as}
use Rattle.json_write.proofs.put_code.Goals as goal

pub returns : goal.returns
returns c = puts-as (coded-as c.args.c _ _ c.hex_digit.ensures c.hex_digit-2.ensures) c.put_text.ensures
