use Rattle.convert_values.proofs.Texts.{picked-on, picked-off}
use Rattle.convert_values.proofs.next_if.Goals as goal

pub returns-then-equal : goal.returns-then-equal
returns-then-equal c = picked-on c.args.equal c.args.e c.if-equal.true

pub returns : goal.returns
returns c = picked-off c.args.equal c.args.e c.if-equal.false
