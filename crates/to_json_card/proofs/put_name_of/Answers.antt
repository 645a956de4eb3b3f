use Rattle.output.proofs.Laws.{puts-as}
use Rattle.to_json_card.proofs.Name.{names-good, name-is}
use Rattle.to_json_card.proofs.put_name_of.Goals as goal

pub first_of-j-requires : goal.first_of-j-requires
first_of-j-requires c = c.requires.1.1.wide

pub first_of-k-requires : goal.first_of-k-requires
first_of-k-requires c = c.requires.1.1.wide

pub value_of-fv-requires : goal.value_of-fv-requires
value_of-fv-requires c = c.requires.0

pub put_name-requires : goal.put_name-requires
put_name-requires c =
    let pre = c.requires in
    let first_of = c.first_of-j in
    let first-of2 = c.first_of-k in
    let line_at_lem = c.line_at in
    let value_of = c.value_of-fv in
    let line-at2 = c.line_at-2 in
    let value-of2 = c.value_of-nv in
    names-good pre.1.1 first_of.ensures first-of2.ensures _ _ line_at_lem.ensures value_of.ensures line-at2.ensures
    value-of2.ensures

pub returns : goal.returns
returns c =
    let first_of = c.first_of-j in
    let first-of2 = c.first_of-k in
    let line_at_lem = c.line_at in
    let value_of = c.value_of-fv in
    let line-at2 = c.line_at-2 in
    let value-of2 = c.value_of-nv in
    λ cs h. puts-as
    (name-is h first_of.ensures first-of2.ensures _ _ line_at_lem.ensures value_of.ensures line-at2.ensures value-of2.ensures)
    c.put_name.ensures
