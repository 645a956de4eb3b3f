use mathlib.Core.Path.{sym, ap}
use Rattle.convert_entry.specs.Rows.{kinds_out, zeros}
use Rattle.convert_entry.proofs.only_of.Goals as goal

pub returns-then-typed : goal.returns-then-typed
returns-then-typed c = sym (ap (λ b. zeros (kinds_out b) c.args.counts.now) c.if-typed.true)

pub returns : goal.returns
returns c = sym (ap (λ b. zeros (kinds_out b) c.args.counts.now) c.if-typed.false)
