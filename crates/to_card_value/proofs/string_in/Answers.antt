use Rattle.to_card_value.proofs.Strings.{string-past, string-here, no-string-here}
use Rattle.to_card_value.proofs.string_in.Goals as goal

pub returns-then-at-s : goal.returns-then-at-s
returns-then-at-s c = string-past c.args.s.now c.args.at c.if-at-s.true

pub returns-then-look-eq-QUOTE : goal.returns-then-look-eq-QUOTE
returns-then-look-eq-QUOTE c = string-here c.args.s.now c.args.at _ _ c.skip_space-i.ensures c.look.ensures.0 c.if-look-eq-QUOTE.true

pub returns : goal.returns
returns c = no-string-here c.args.s.now c.args.at _ _ c.skip_space-i.ensures c.look.ensures.0 c.if-look-eq-QUOTE.false
