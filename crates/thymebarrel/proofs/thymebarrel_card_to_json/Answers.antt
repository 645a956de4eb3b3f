use lib.ListN.{length}
use Rattle.convert.specs.Answers.{card_to_json}
use Rattle.c_calls.specs.Promise.{told}
use Rattle.thymebarrel.proofs.Serving.{shown-served}
use Rattle.thymebarrel.proofs.thymebarrel_card_to_json.Goals as goal

pub returns : goal.returns
returns c =
    let a = c.args in
    let json = c.card_to_json-r in
    shown-served a.out.now _ (card_to_json a.stem.now a.number (length a.out.now) a.card.now) _ (told _ _ _) c.tell_outcome.ensures json.ensures.said json.ensures.left
