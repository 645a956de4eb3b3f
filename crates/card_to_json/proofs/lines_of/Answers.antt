use Rattle.card_to_json.proofs.Steps.{inner-1, body, lays, lays-many}
use Rattle.card_to_json.proofs.lines_of.Goals as goal

pub returns-in_default : goal.returns-in_default
returns-in_default c = inner-1 c.args.card.now c.frame_of.result c.in_default.is c.frame_of.ensures

pub returns-in_default-unfold : goal.returns-in_default-unfold
returns-in_default-unfold c =
    let f = body c.args.card.now c.frame_of.result c.in-Some.body c.in-Some.is c.frame_of.ensures in
    lays-many c.args.most c.args.card.now _ c.unfold.result c.unfold.new.out c.unfold.new.table f.2 c.unfold.ensures _ c.in_default-unfold.is

pub returns : goal.returns
returns c =
    let f = body c.args.card.now c.frame_of.result c.in-Some.body c.in-Some.is c.frame_of.ensures in
    lays c.args.most c.args.card.now _ c.unfold.result c.unfold.new.out c.unfold.new.table f.2 c.unfold.ensures c.in-Ok.n c.in-Ok.is
