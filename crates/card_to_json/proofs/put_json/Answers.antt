use Rattle.card_to_json.proofs.Making.{made-json, made-full}
use Rattle.card_to_json.proofs.put_json.Goals as goal

pub returns-in_default : goal.returns-in_default
returns-in_default c =
    λ cs x. made-full c.args.res.now _ c.put_card.result _ (c.put_card.ensures cs x) c.in_default.is

pub returns : goal.returns
returns c =
    λ cs x. made-json c.args.res.now _ c.put_card.result _ c.in-Ok.k (c.put_card.ensures cs x) c.in-Ok.is
