use borrow.Author.Rules.{rules}
use mathlib.Core.List.{[]}
use native.Mathlib.Omega.{arith}
use lib.ListN.{get_or}
use Rattle.output.proofs.Laws.{puts-as}
use Rattle.line_table.specs.Table.{line_in, part}
use Rattle.convert_entry.proofs.Tests.{first-pref}
use Rattle.to_json_entry.proofs.Whole.{nine-long, strings-good, no-pref, the-pref, line-bytes}
use Rattle.to_json_entry.proofs.put_map_line.Goals as goal

pub value_kind-vk-requires : goal.value_kind-vk-requires
value_kind-vk-requires c =
    let args = c.args in
    let pre = c.requires in
    (pre.rowed.wide, ((line_in args.s.now args.t.now).params, pre.rowed.row))

pub mark_rows-requires : goal.mark_rows-requires
mark_rows-requires c = (nine-long, c.requires.rowed.sound)

pub bounds-t-4 : goal.bounds-t-4
bounds-t-4 c = omega (arith, c.requires.rowed.sound.wide)

pub bounds-t-5 : goal.bounds-t-5
bounds-t-5 c = omega (arith, c.requires.rowed.sound.wide)

pub slice_bounds-put_entry-count : goal.slice_bounds-put_entry-count
slice_bounds-put_entry-count c = let v = c.requires.rowed.sound.value in omega (arith, v.ordered, v.within)

pub slice_bounds-put_entry-start : goal.slice_bounds-put_entry-start
slice_bounds-put_entry-start c = let v = c.requires.rowed.sound.value in omega (arith, v.ordered, v.within)

pub slice_bounds-put_entry-end : goal.slice_bounds-put_entry-end
slice_bounds-put_entry-end c = let v = c.requires.rowed.sound.value in omega (arith, v.ordered, v.within)

pub slice_bounds-put_entry-count-then-k-eq0 : goal.slice_bounds-put_entry-count-then-k-eq0
slice_bounds-put_entry-count-then-k-eq0 c = omega arith

pub slice_bounds-put_entry-start-then-k-eq0 : goal.slice_bounds-put_entry-start-then-k-eq0
slice_bounds-put_entry-start-then-k-eq0 c = omega arith

pub slice_bounds-put_entry-end-then-k-eq0-2 : goal.slice_bounds-put_entry-end-then-k-eq0-2
slice_bounds-put_entry-end-then-k-eq0-2 c = omega arith

pub put_entry-requires : goal.put_entry-requires
put_entry-requires c = (
  search rules,
  let x = c.requires in strings-good c.args.s.now c.args.t.now x.seen x.slot x.entry x.is x.converts c.value_kind-vk.result (c.value_kind-vk.ensures _ x.rowed.row),
)

pub returns-then-k-eq0 : goal.returns-then-k-eq0
returns-then-k-eq0 c =
    λ seen w e is rd q. let r = c.requires.rowed.row in puts-as
    (line-bytes c.args.s.now c.args.t.now seen w e is q c.args.kind c.value_kind-vk.result c.args.key.now [] _ _ rd
    (c.value_kind-vk.ensures _ r) c.mark_rows.ensures (no-pref c.args.s.now c.args.t.now seen w e is q r c.if-k-eq0.true))
    c.put_entry.ensures

pub slice_bounds-put_entry-count-2 : goal.slice_bounds-put_entry-count-2
slice_bounds-put_entry-count-2 c = let v = c.requires.rowed.sound.value in omega (arith, v.ordered, v.within)

pub slice_bounds-put_entry-start-2 : goal.slice_bounds-put_entry-start-2
slice_bounds-put_entry-start-2 c = let v = c.requires.rowed.sound.value in omega (arith, v.ordered, v.within)

pub slice_bounds-put_entry-end-2 : goal.slice_bounds-put_entry-end-2
slice_bounds-put_entry-end-2 c = let v = c.requires.rowed.sound.value in omega (arith, v.ordered, v.within)

pub slice_bounds-put_entry-count-3 : goal.slice_bounds-put_entry-count-3
slice_bounds-put_entry-count-3 c =
    let pre = c.requires in
    let if1 = c.if-k-eq0 in
    let v = first-pref pre.rowed.row if1.false in omega (arith, v.ordered, v.within)

pub slice_bounds-put_entry-start-3 : goal.slice_bounds-put_entry-start-3
slice_bounds-put_entry-start-3 c =
    let pre = c.requires in
    let if1 = c.if-k-eq0 in
    let v = first-pref pre.rowed.row if1.false in omega (arith, v.ordered, v.within)

pub slice_bounds-put_entry-end-4 : goal.slice_bounds-put_entry-end-4
slice_bounds-put_entry-end-4 c =
    let pre = c.requires in
    let if1 = c.if-k-eq0 in
    let v = first-pref pre.rowed.row if1.false in omega (arith, v.ordered, v.within)

pub put_entry-requires-2 : goal.put_entry-requires-2
put_entry-requires-2 c = (
  search rules,
  let x = c.requires in strings-good c.args.s.now c.args.t.now x.seen x.slot x.entry x.is x.converts c.value_kind-vk.result (c.value_kind-vk.ensures _ x.rowed.row),
)

pub returns : goal.returns
returns c =
    λ seen w e is rd q. let r = c.requires.rowed.row in puts-as
    (line-bytes c.args.s.now c.args.t.now seen w e is q c.args.kind c.value_kind-vk.result c.args.key.now
    (part c.args.s.now (get_or c.args.rows.froms.now 1 0) (get_or c.args.rows.tos.now 1 0)) _ _ rd (c.value_kind-vk.ensures _ r)
    c.mark_rows.ensures (the-pref c.args.s.now c.args.t.now seen w e is q r c.if-k-eq0.false))
    c.put_entry-2.ensures
