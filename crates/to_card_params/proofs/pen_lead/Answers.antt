use Rattle.to_card_params.proofs.Types.{lead-on, lead-off}
use Rattle.line_pen.proofs.Laws.{pens-as}
use Rattle.to_card_params.proofs.pen_lead.Goals as goal

pub returns-then-begun : goal.returns-then-begun
returns-then-begun c = pens-as (lead-on _ c.if-begun.true) c.pen_bytes.ensures

pub returns : goal.returns
returns c = pens-as (lead-off _ c.if-begun.false) c.pen_bytes-2.ensures
