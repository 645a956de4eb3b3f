use Rattle.line_pen.proofs.Laws.{pens-as, first!, next! }
use Rattle.to_card_kept_entry.proofs.writing.Lines.{lead-more, lead-new}
use Rattle.to_card_kept_entry.proofs.writing.pen_lead.Goals as goal

pub returns-then-more : goal.returns-then-more
returns-then-more c =
    let a = c.args in
    pens-as (lead-more a.more a.name.now c.if-more.true) c.pen_byte.ensures

pub returns : goal.returns
returns c =
    let a = c.args in
    let if1 = c.if-more in
    let pen-byte2 = c.pen_byte-p in
    let pen-upper = c.pen_upper-q in
    let pen-byte3 = c.pen_byte-z in
    pens-as (lead-new a.more a.name.now if1.false) (next! (next! (first! pen-byte2.ensures) pen-upper.ensures) pen-byte3.ensures).so
