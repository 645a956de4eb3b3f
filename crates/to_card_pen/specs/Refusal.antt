-- Refusal 12, which the parts of the card hand on.
use Rattle.to_card_pen.specs.declared.NoCard.{NoCard}

abbrev pub no_card : NoCard
no_card = record {}
