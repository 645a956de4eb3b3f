use Rattle.to_card_members.proofs.Values.{fills-bytes, fills-full}
use Rattle.to_card_members.proofs.put_value.Goals as goal

pub returns-in-Ok : goal.returns-in-Ok
returns-in-Ok c = fills-bytes c.put_compact.ensures.puts c.in-Ok.is

pub returns-in-Err : goal.returns-in-Err
returns-in-Err c = fills-full c.put_compact.ensures.puts c.in-Err.is
