use mathlib.Core.Path.{refl, sym, ◌∙◌}
use Rattle.to_card_kept_entry.proofs.writing.Bytes.{tells_as}
use Rattle.to_card_members.proofs.Pointers.{stands-param}
use Rattle.line_write.proofs.Naming.{value-always, value-quoted, value-bare}
use Rattle.to_card_kept_entry.proofs.writing.pen_value.Goals as goal

pub returns-then-quoted : goal.returns-then-quoted
returns-then-quoted c = tells_as (value-always c.args.v.now _ c.if-quoted.true) refl c.pen_quoted.ensures

pub returns-then-not-all_of : goal.returns-then-not-all_of
returns-then-not-all_of c =
    let a = c.args in
    let if1 = c.if-quoted in
    let all_of = c.all_of in
    let pen-quoted2 = c.pen_quoted-then-not-all_of in
    tells_as (value-quoted a.v.now _ if1.false (sym all_of.ensures ∙ c.if-not-all_of.true)) refl pen-quoted2.ensures

pub returns : goal.returns
returns c =
    let a = c.args in
    let if1 = c.if-quoted in
    let all_of = c.all_of in
    let pen-told = c.pen_told in
    tells_as (value-bare a.v.now _ if1.false (sym all_of.ensures ∙ c.if-not-all_of.false)) (stands-param a.v.now) pen-told.ensures
