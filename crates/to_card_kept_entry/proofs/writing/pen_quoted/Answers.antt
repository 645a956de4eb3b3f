use mathlib.Core.Path.{refl, ◌∙◌}
use Rattle.line_pen.proofs.Laws.{first!, next! }
use Rattle.to_card_kept_entry.proofs.writing.Lines.{quoted-is}
use Rattle.to_card_members.proofs.Pointers.{stands-param}
use Rattle.to_card_kept_entry.proofs.writing.Bytes.{tells_as}
use Rattle.to_card_kept_entry.proofs.writing.pen_quoted.Goals as goal

pub returns : goal.returns
returns c =
    let pen-byte = c.pen_byte-p in
    let pen-told = c.pen_told-q in
    let pen-byte2 = c.pen_byte-z in
    let a = c.args in
    tells_as (quoted-is _) refl (record { pens = (next! (next! (first! pen-byte.ensures) pen-told.ensures.pens) pen-byte2.ensures).so; carried = pen-told.ensures.carried ∙ stands-param a.v.now })
