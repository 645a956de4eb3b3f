use native.Mathlib.Omega.{arith}
use Rattle.to_json_maps.proofs.Marking.{filled-holds, filled_none}
use Rattle.output.proofs.Laws.{puts-as, done, start}
use Rattle.to_json_sections.proofs.Firsts.{kind-none, kind-given, found-unread}
use Rattle.to_json_sections.proofs.put_kind_of.Goals as goal

pub first_of-k-requires : goal.first_of-k-requires
first_of-k-requires c = c.requires.1.1.wide

pub returns-then-k-lines : goal.returns-then-k-lines
returns-then-k-lines c = λ cs h. puts-as (kind-none h c.first_of-k.ensures c.if-k-lines.true) (done (start _))

pub fill-requires : goal.fill-requires
fill-requires c = c.requires.0

pub returns-then-not-fill : goal.returns-then-not-fill
returns-then-not-fill c =
    let first_of = c.first_of-k in
    let if1 = c.if-k-lines in
    let line_at_lem = c.line_at-s in
    let fill = c.fill in
    λ cs h. found-unread h first_of.ensures if1.false line_at_lem.ensures
    (filled_none _ _ fill.result fill.ensures c.if-not-fill.true)

pub bounds-t-4 : goal.bounds-t-4
bounds-t-4 c = omega (arith, (filled-holds c.fill.result c.fill.ensures c.if-not-fill.false).sound.wide)

pub bounds-t-5 : goal.bounds-t-5
bounds-t-5 c = omega (arith, (filled-holds c.fill.result c.fill.ensures c.if-not-fill.false).sound.wide)

pub slice_bounds-put_kind-count : goal.slice_bounds-put_kind-count
slice_bounds-put_kind-count c = let v = (filled-holds c.fill.result c.fill.ensures c.if-not-fill.false).sound.value in omega (arith, v.ordered, v.within)

pub slice_bounds-put_kind-start : goal.slice_bounds-put_kind-start
slice_bounds-put_kind-start c = let v = (filled-holds c.fill.result c.fill.ensures c.if-not-fill.false).sound.value in omega (arith, v.ordered, v.within)

pub slice_bounds-put_kind-end : goal.slice_bounds-put_kind-end
slice_bounds-put_kind-end c = let v = (filled-holds c.fill.result c.fill.ensures c.if-not-fill.false).sound.value in omega (arith, v.ordered, v.within)

pub returns : goal.returns
returns c =
    let first_of = c.first_of-k in
    let if1 = c.if-k-lines in
    let line_at_lem = c.line_at-s in
    let fill = c.fill in
    λ cs h. puts-as
    (kind-given h first_of.ensures if1.false line_at_lem.ensures (filled-holds fill.result fill.ensures c.if-not-fill.false))
    c.put_kind.ensures
