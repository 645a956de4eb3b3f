use mathlib.Core.Path.{sym, ap, ◌∙◌}
use mathlib.Core.Bool.{Bool, ◌&&◌}
use Rattle.json_strings.specs.Decoded.{decoded_at, agree}
use Rattle.to_card_order.proofs.agrees.Goals as goal

pub returns-then-not-wanted : goal.returns-then-not-wanted
returns-then-not-wanted c = sym (ap (λ (b : Bool). b && agree (decoded_at c.args.s.now c.args.a) (decoded_at c.args.s.now c.args.b)) c.if-not-wanted.true)

pub returns : goal.returns
returns c = c.same_text.ensures ∙ sym (ap (λ (b : Bool). b && agree (decoded_at c.args.s.now c.args.a) (decoded_at c.args.s.now c.args.b)) c.if-not-wanted.false)
