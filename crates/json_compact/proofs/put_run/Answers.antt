use mathlib.Core.Path.{sym}
use Rattle.std.proofs.lemmas.List.{nil_from_length}
use Rattle.output.proofs.Laws.{start, done, puts-as}
use Rattle.json_compact.proofs.put_run.Goals as goal

pub returns-then-run-eq0 : goal.returns-then-run-eq0
returns-then-run-eq0 c = puts-as (sym (nil_from_length c.args.run.now c.if-run-eq0.true)) (done (start c.args.out.now))
