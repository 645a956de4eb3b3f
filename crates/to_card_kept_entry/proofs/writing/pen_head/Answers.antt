use Rattle.text.specs.Bytes.{uppered}
use Rattle.line_pen.proofs.Laws.{pens-as, first!, next! }
use Rattle.to_card_kept_entry.proofs.writing.Lines.{group-none, group-some}
use Rattle.to_card_kept_entry.proofs.writing.pen_head.Goals as goal

pub returns-then-group-eq0 : goal.returns-then-group-eq0
returns-then-group-eq0 c =
    let a = c.args in
    pens-as (group-none a.group.now (uppered a.name.now) c.if-group-eq0.true) c.pen_upper.ensures

pub returns : goal.returns
returns c =
    let a = c.args in
    let if1 = c.if-group-eq0 in
    let pen-bytes = c.pen_bytes-p in
    let pen-byte = c.pen_byte-q in
    let pen-upper2 = c.pen_upper-z in
    pens-as (group-some a.group.now (uppered a.name.now) if1.false) (next! (next! (first! pen-bytes.ensures) pen-byte.ensures) pen-upper2.ensures).so
