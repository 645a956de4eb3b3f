use Rattle.stream_cards.proofs.Laws.{card-in, card-said, card-left}
use Rattle.stream_cards.proofs.say.Goals as goal

pub slice_bounds-card_to_json-end : goal.slice_bounds-card_to_json-end
slice_bounds-card_to_json-end c =
    card-in c.args.event _ _ _ c.in-Card.is c.requires

pub returns-in-Refused : goal.returns-in-Refused
returns-in-Refused c =
    record { value = rw c.in-Refused.is; out_after = rw c.in-Refused.is }

pub returns-in-Card : goal.returns-in-Card
returns-in-Card c =
    let a = c.args in
    let json = c.card_to_json-r in record {
      value = card-said a.stem.now a.buffer.now a.out.now a.event _ _ c.in-Card.is _ json.ensures.said;
      out_after = card-left a.stem.now a.buffer.now a.out.now a.event _ _ c.in-Card.is _ json.ensures.left;
    }
