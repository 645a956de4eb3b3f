use mathlib.Core.Path.{refl}
use mathlib.Core.Bool.{true}
use Rattle.to_card_parts.proofs.Values.{one-empty, one-first, one_later}
use Rattle.to_card_parts.proofs.pen_wanted.Goals as goal

pub returns-then-not-is_filled : goal.returns-then-not-is_filled
returns-then-not-is_filled c =
    let args = c.args in
    let is-filled = c.is_filled in
    one-empty args.s.now args.at args.style args.mark true args.begun args.out.now args.column is-filled.result is-filled.ensures c.if-not-is_filled.true

pub returns-then-not-begun : goal.returns-then-not-begun
returns-then-not-begun c =
    let args = c.args in
    let is-filled = c.is_filled in
    let pen-string = c.pen_string-t in
    one-first args.s.now args.at args.style args.mark true args.begun args.out.now args.column is-filled.result is-filled.ensures refl c.if-not-is_filled.false
    c.if-not-begun.true pen-string.result _ pen-string.ensures

pub returns : goal.returns
returns c =
    let args = c.args in
    let is-filled = c.is_filled in
    let pen-byte = c.pen_byte-p in
    let pen-string2 = c.pen_string-t-2 in
    one_later args.s.now args.at args.style args.mark true args.begun args.out.now args.column is-filled.result is-filled.ensures refl c.if-not-is_filled.false
    c.if-not-begun.false pen-byte.result _ pen-byte.ensures pen-string2.result _ pen-string2.ensures
