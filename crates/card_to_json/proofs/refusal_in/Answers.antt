use mathlib.Core.Path.{sym, ◌∙◌}
use Rattle.card_to_json.proofs.Making.{tested-4, tested-rest}
use Rattle.card_to_json.proofs.refusal_in.Goals as goal

pub returns-in-Some : goal.returns-in-Some
returns-in-Some c =
    λ raw laid. tested-4 raw c.args.n c.args.scratch.now c.args.starts.now _ c.in-Some.place laid (sym c.in-Some.is ∙ c.first_garbled.ensures raw laid)

pub returns : goal.returns
returns c =
    λ raw laid. tested-rest raw c.args.n c.args.scratch.now c.args.starts.now _ c.class_lines.result laid (sym c.in_default.is ∙ c.first_garbled.ensures raw laid)
    (c.class_lines.ensures raw laid)
