use Rattle.output.proofs.Laws.{failed}
use borrow.Author.Rules.{rules}
use mathlib.Core.Path.{sym, ap, ◌∙◌}
use native.Mathlib.Nat.{le_refl, lt_of_le_of_lt}
use Rattle.to_json_maps.proofs.Marking.{filled-holds, filled_none}
use Rattle.output.proofs.Laws.{first, first-full, next, stop, more, done, within, puts-as}
use Rattle.output.proofs.Rows.{length-puts}
use Rattle.text.proofs.Choices.{none-some}
use Rattle.convert_entry.proofs.Entry.{clear-eight}
use Rattle.convert_put.specs.Pieces.{member_bytes}
use Rattle.to_json_card.proofs.Members.{held-member}
use Rattle.to_json_card.proofs.put_member_turn.Goals as goal

pub fill-requires : goal.fill-requires
fill-requires c = c.requires.0

pub returns-then-not-fill : goal.returns-then-not-fill
returns-then-not-fill c = λ m x. none-some (sym (filled_none _ _ c.fill.result c.fill.ensures c.if-not-fill.true) ∙ x.read)

pub scan_rows-requires : goal.scan_rows-requires
scan_rows-requires c = (clear-eight, (filled-holds c.fill.result c.fill.ensures c.if-not-fill.false).sound)

pub returns-in_err-a : goal.returns-in_err-a
returns-in_err-a c =
    λ m x. failed c.from_residual.ensures.0
    (more (member_bytes m) (first-full c.put_byte.ensures c.in_err-a.was))

pub slice_bounds-put_member_line-count : goal.slice_bounds-put_member_line-count
slice_bounds-put_member_line-count c = within (first c.put_byte.ensures c.in_ok-a.was)

pub slice_bounds-put_member_line-start : goal.slice_bounds-put_member_line-start
slice_bounds-put_member_line-start c = within (first c.put_byte.ensures c.in_ok-a.was)

pub slice_bounds-put_member_line-end : goal.slice_bounds-put_member_line-end
slice_bounds-put_member_line-end c = le_refl _

pub put_member_line-requires : goal.put_member_line-requires
put_member_line-requires c =
    let pre = c.requires in
    let fill = c.fill in
    let scan-rows = c.scan_rows in
    let holds = filled-holds fill.result fill.ensures c.if-not-fill.false in
    let member = pre.2.1 in (
      record {
        rowed = record { wide = record { counts = search rules; froms = search rules; tos = search rules }; row = scan-rows.ensures; sound = holds.sound };
        seen = member.seen;
        name = member.name;
        value = member.value;
        is = held-member holds member;
      },
      pre.1,
    )

pub returns-in_err-b : goal.returns-in_err-b
returns-in_err-b c =
    let fill = c.fill in
    let put_byte = c.put_byte in
    let put-member-line = c.put_member_line in
    λ m x. failed c.from_residual-in_err-b.ensures.0
    (stop (first put_byte.ensures c.in_ok-a.was)
    (puts-as (ap member_bytes x.is)
    (put-member-line.ensures x.seen x.name x.value
    (held-member (filled-holds fill.result fill.ensures c.if-not-fill.false) x)))
    c.in_err-b.was)

pub overflow_add-ab : goal.overflow_add-ab
overflow_add-ab c =
    let pre = c.requires in
    let good = c.well_formed in
    let fill = c.fill in
    let put_byte = c.put_byte in
    let put-member-line = c.put_member_line in
    record {
      fits = lt_of_le_of_lt
          (next (first put_byte.ensures c.in_ok-a.was)
          (puts-as (ap member_bytes pre.2.1.is)
          (put-member-line.ensures pre.2.1.seen pre.2.1.name pre.2.1.value
          (held-member (filled-holds fill.result fill.ensures c.if-not-fill.false) pre.2.1)))
          c.in_ok-b.was).fits
          good.0.0;
    }

pub shape_of-out : goal.shape_of-out
shape_of-out c =
    let pre = c.requires in
    let fill = c.fill in
    let put_byte = c.put_byte in
    let put-member-line = c.put_member_line in
    (next (first put_byte.ensures c.in_ok-a.was)
    (puts-as (ap member_bytes pre.2.1.is)
    (put-member-line.ensures pre.2.1.seen pre.2.1.name pre.2.1.value
    (held-member (filled-holds fill.result fill.ensures c.if-not-fill.false) pre.2.1)))
    c.in_ok-b.was).same

pub returns : goal.returns
returns c =
    let fill = c.fill in
    let put_byte = c.put_byte in
    let put-member-line = c.put_member_line in
    λ m x. done
    (next (first put_byte.ensures c.in_ok-a.was)
    (puts-as (ap member_bytes x.is)
    (put-member-line.ensures x.seen x.name x.value
    (held-member (filled-holds fill.result fill.ensures c.if-not-fill.false) x)))
    c.in_ok-b.was)
