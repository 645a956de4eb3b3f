use lib.ListN.{length}
use Rattle.convert.specs.Answers.{json_to_card}
use Rattle.c_calls.specs.Promise.{told}
use Rattle.thymebarrel.proofs.Serving.{shown-served}
use Rattle.thymebarrel.proofs.thymebarrel_json_to_card.Goals as goal

pub returns : goal.returns
returns c =
    let a = c.args in
    let card = c.json_to_card-r in
    shown-served a.out.now _ (json_to_card (length a.out.now) a.json.now) _ (told _ _ _) c.tell_outcome.ensures card.ensures.said card.ensures.left
