use Rattle.to_json_keys.proofs.Marked.{mark}
use Rattle.to_json_keys.proofs.mark_key.Goals as goal

pub returns : goal.returns
returns c = mark c.args.prefix.now c.args.key.now c.args.row.now c.number_of-n.result c.number_of-n.ensures c.requires
