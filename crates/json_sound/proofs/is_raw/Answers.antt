use Rattle.json_sound.proofs.Plain.{raw-when}
use Rattle.json_sound.proofs.is_raw.Goals as goal

pub returns : goal.returns
returns c = raw-when _ _ c.if-b-eq-QUOTE.false c.if-b-eq-BACKSLASH.false c.in_range.ensures
