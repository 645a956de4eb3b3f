use mathlib.Core.Path.{ap}
use native.Mathlib.Omega.{arith}
use Rattle.output.proofs.Laws.{puts-as}
use Rattle.to_json_items.specs.Items.{listed}
use Rattle.convert_values.proofs.Texts.{nothing-readable}
use Rattle.to_json_name.proofs.Parts.{slice_is, slice-good, values-alone, values-besides}
use Rattle.to_json_name.proofs.put_part.Goals as goal

pub slice_bounds-put_items-end : goal.slice_bounds-put_items-end
slice_bounds-put_items-end c =
    let pre = c.requires in
    omega (arith, pre.2.from, pre.2.within pre.1.within)

pub put_items-requires : goal.put_items-requires
put_items-requires c =
    let args = c.args in
    let pre = c.requires in
    (slice-good args.v.now args.k args.a args.b pre.0 pre.1 pre.2, nothing-readable)

pub returns-then-q-eq-NONE : goal.returns-then-q-eq-NONE
returns-then-q-eq-NONE c =
    let args = c.args in
    let pre = c.requires in
    let other-part = c.other_part-q in
    let if1 = c.if-q-eq-NONE in
    puts-as
    (ap (listed args.k args.begun)
    (values-alone args.v.now args.k _ other-part.ensures _
    (slice_is args.v.now args.k args.a args.b pre.1 pre.2) if1.true))
    c.put_items.ensures

pub slice_bounds-put_items-end-2 : goal.slice_bounds-put_items-end-2
slice_bounds-put_items-end-2 c =
    let pre = c.requires in
    omega (arith, pre.2.from, pre.2.within pre.1.within)

pub slice_bounds-put_items-end-3 : goal.slice_bounds-put_items-end-3
slice_bounds-put_items-end-3 c =
    let part-from = c.part_from-c in
    let part-end = c.part_end-d in
    omega (arith, part-end.ensures.from, part-end.ensures.within part-from.ensures.within)

pub put_items-requires-2 : goal.put_items-requires-2
put_items-requires-2 c =
    let args = c.args in
    let pre = c.requires in
    let part-from = c.part_from-c in
    let part-end = c.part_end-d in (
      slice-good args.v.now args.k args.a args.b pre.0 pre.1 pre.2,
      slice-good args.v.now _ _ _ pre.0 part-from.ensures part-end.ensures,
    )

pub returns : goal.returns
returns c =
    let args = c.args in
    let pre = c.requires in
    let other-part = c.other_part-q in
    let if1 = c.if-q-eq-NONE in
    let part-from = c.part_from-c in
    let part-end = c.part_end-d in
    puts-as
    (ap (listed args.k args.begun)
    (values-besides args.v.now args.k _ other-part.ensures _ _
    (slice_is args.v.now args.k args.a args.b pre.1 pre.2)
    (slice_is args.v.now _ _ _ part-from.ensures part-end.ensures) if1.false))
    c.put_items-2.ensures
