use Rattle.to_card_params.proofs.Types.{part_off, part-on}
use Rattle.line_pen.proofs.Laws.{pens-as, pens-then}
use Rattle.text.specs.Bytes.{parts}
use Rattle.to_card_params.proofs.pen_type.Goals as goal

pub returns-then-not-on : goal.returns-then-not-on
returns-then-not-on c = part_off (parts 44 c.args.names.now) c.args.c c.args.on c.args.begun c.if-not-on.true

pub returns : goal.returns
returns c =
    let args = c.args in
    let nth-name = c.nth_name-h in
    let pen-lead = c.pen_lead-p in
    let pen-bytes = c.pen_bytes-q in
    pens-as (part-on (parts 44 args.names.now) args.c args.on args.begun c.if-not-on.false nth-name.ensures.is)
    (pens-then pen-lead.ensures pen-bytes.ensures)
