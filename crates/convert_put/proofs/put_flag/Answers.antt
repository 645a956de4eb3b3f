use Rattle.output.proofs.Laws.{puts-as, start, done}
use Rattle.convert_put.proofs.Writing.{flag-on, flag_off}
use Rattle.convert_put.proofs.put_flag.Goals as goal

pub returns-then-on : goal.returns-then-on
returns-then-on c = puts-as (flag-on _ _ _ c.if-on.true) c.put_marked.ensures

pub returns : goal.returns
returns c = puts-as (flag_off _ _ _ c.if-on.false) (done (start _))
