use mathlib.Core.Path.{ap, subst, ◌∙◌}
use Rattle.std.specs.Prelude.{Ok, Err}
use Rattle.json_open.specs.Opened.{as_verdict, Opens}
use Rattle.to_card_card.specs.Whole.{card_names}
use Rattle.json_to_card.proofs.Serving.{read-large, read-not-json, read-not-object, read-sound, read-object}
use Rattle.json_to_card.proofs.open_members.Goals as goal

pub returns-in-Ok-Object : goal.returns-in-Ok-Object
returns-in-Ok-Object c =
    let s = c.args.json.now in
    let r = c.read_members in
    let v = as_verdict r.result in
    let is = c.in-Ok-Object.is ∙ ap Ok c.in-Ok-Object.field-0-is in
    record {
      reads = read-sound s v r.ensures.result_value r.ensures.in_words (ap as_verdict is);
      indexes = subst (Opens s card_names r.new.slots) is r.ensures.opens;
      by_members = read-object s v r.ensures.result_value r.ensures.in_words (ap as_verdict is);
    }

pub returns-in-Ok-Other : goal.returns-in-Ok-Other
returns-in-Ok-Other c =
    let s = c.args.json.now in
    let r = c.read_members in
    let is = c.in-Ok-Other.is ∙ ap Ok c.in-Ok-Other.field-0-is in
    read-not-object s (as_verdict r.result) r.ensures.result_value r.ensures.in_words (ap as_verdict is) r.new.slots (subst (Opens s card_names r.new.slots) is r.ensures.opens)

pub returns-in-Err-Large : goal.returns-in-Err-Large
returns-in-Err-Large c =
    let r = c.read_members in
    read-large c.args.json.now (as_verdict r.result) r.ensures.result_value r.ensures.in_words (ap as_verdict (c.in-Err-Large.is ∙ ap Err c.in-Err-Large.field-0-is))

pub returns-in-Err-NotJson : goal.returns-in-Err-NotJson
returns-in-Err-NotJson c =
    let r = c.read_members in
    read-not-json c.args.json.now (as_verdict r.result) r.ensures.result_value r.ensures.in_words _ (ap as_verdict (c.in-Err-NotJson.is ∙ ap Err c.in-Err-NotJson.field-0-is))
