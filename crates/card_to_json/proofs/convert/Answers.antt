use lib.ListN.{length}
use Rattle.card_to_json.proofs.Steps.{lays-as}
use Rattle.card_to_json.proofs.Making.{made-card}
use Rattle.card_to_json.proofs.convert.Goals as goal

pub returns-in-Ok : goal.returns-in-Ok
returns-in-Ok c =
    let laid = lays-as (length c.args.codes.now) c.args.card.now c.lines_of.result _ c.lines_of.new.scratch c.lines_of.new.starts c.in-Ok.is c.lines_of.ensures in
    made-card c.args.stem.now c.args.number c.args.card.now laid.0 c.args.res.now c.json_of.result _ laid.1 _ (c.json_of.ensures laid.0 laid.2)
