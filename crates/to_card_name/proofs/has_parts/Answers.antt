use Rattle.to_card_name.proofs.Members.{parts-told}
use Rattle.to_card_name.proofs.has_parts.Goals as goal

pub returns : goal.returns
returns c = parts-told c.args.marks.now
