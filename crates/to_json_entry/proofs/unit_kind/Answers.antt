use Rattle.to_json_entry.proofs.Org.{kind-named, kind-alone}
use Rattle.to_json_entry.proofs.unit_kind.Goals as goal

pub returns-then-named : goal.returns-then-named
returns-then-named c = kind-named c.args.named c.if-named.true

pub returns : goal.returns
returns c = kind-alone c.args.named c.if-named.false
