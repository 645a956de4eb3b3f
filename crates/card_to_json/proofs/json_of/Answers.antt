use Rattle.card_to_json.proofs.Making.{made-lines}
use Rattle.card_to_json.proofs.json_of.Goals as goal

pub returns-in_default : goal.returns-in_default
returns-in_default c =
    λ raw laid. made-lines c.args.stem.now c.args.number c.args.scratch.now c.args.starts.now _ c.args.n c.refusal_in.result raw c.args.res.now c.put_json.result _
    (c.refusal_in.ensures raw laid) c.in_default.is c.put_json.ensures
