use Rattle.output.proofs.Laws.{puts-as, start, done}
use Rattle.convert_put.proofs.Writing.{no-pref, some-pref}
use Rattle.convert_put.proofs.put_pref.Goals as goal

pub returns-then-p-eq0 : goal.returns-then-p-eq0
returns-then-p-eq0 c = puts-as (no-pref _ c.if-p-eq0.true) (done (start _))

pub returns : goal.returns
returns c = puts-as (some-pref _ c.if-p-eq0.false) c.put_two.ensures
