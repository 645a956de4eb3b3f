use Rattle.to_json_kept.proofs.Params.{is-value, is-other}
use Rattle.to_json_kept.proofs.is_param.Goals as goal

pub is_value-requires : goal.is_value-requires
is_value-requires c = c.requires

pub returns-then-is_value : goal.returns-then-is_value
returns-then-is_value c = is-value c.args.s.now c.args.t.now c.args.k c.is_value.ensures c.if-is_value.true

pub is_first-requires : goal.is_first-requires
is_first-requires c = c.requires

pub returns : goal.returns
returns c = is-other c.args.s.now c.args.t.now c.args.k c.is_value.ensures c.if-is_value.false c.is_first.ensures
