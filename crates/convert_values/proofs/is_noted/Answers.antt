use native.Mathlib.Omega.{arith}
use mathlib.Core.Path.{◌∙◌}
use Rattle.line_text.specs.Read.{plain_text}
use Rattle.convert_values.proofs.Texts.{part-good}
use Rattle.convert_values.proofs.Noting.{clear_none, clear-to, clear-more, level, row-good, row-part, row_same, found-row, found_none}
use Rattle.convert_values.proofs.is_noted.Goals as goal

pub print_text-p-requires : goal.print_text-p-requires
print_text-p-requires c = c.requires.u_value

pub next_print-k-requires : goal.next_print-k-requires
next_print-k-requires c = record { from_le_to = omega arith; to_in_bounds = omega arith }

pub loop-k-init : goal.loop-k-init
loop-k-init c =
    let args = c.args in
    let print-text = c.print_text-p in (
      c.next_print-k.ensures.1,
      clear-to c.requires.noted (plain_text args.u.now) print-text.result 0 c.next_print-k.result print-text.ensures
          c.next_print-k.ensures.1 c.next_print-k.ensures.2 (clear_none (plain_text args.u.now) args.o.now args.places.now),
    )

pub bounds-places-k : goal.bounds-places-k
bounds-places-k c = omega (arith, c.loop-k-test.true, level c.requires.noted)

pub slice_bounds-same_text-count : goal.slice_bounds-same_text-count
slice_bounds-same_text-count c = omega (arith, row-part c.requires.noted c.loop-k.k _ _ c.loop-k-test.true c.wide-a.ensures c.part_end-e.ensures)

pub slice_bounds-same_text-start : goal.slice_bounds-same_text-start
slice_bounds-same_text-start c = omega (arith, row-part c.requires.noted c.loop-k.k _ _ c.loop-k-test.true c.wide-a.ensures c.part_end-e.ensures)

pub slice_bounds-same_text-end : goal.slice_bounds-same_text-end
slice_bounds-same_text-end c = omega (arith, row-part c.requires.noted c.loop-k.k _ _ c.loop-k-test.true c.wide-a.ensures c.part_end-e.ensures)

pub same_text-requires : goal.same_text-requires
same_text-requires c =
    let args = c.args in
    let loop = c.loop-k in
    let loop-test = c.loop-k-test in
    let wide = c.wide-a in (
      c.requires.u_value,
      part-good 44 args.o.now wide.result _ c.part_end-e.ensures
          (row-good c.requires.noted loop.k wide.result loop-test.true wide.ensures).1,
    )

pub returns-then-same_text : goal.returns-then-same_text
returns-then-same_text c =
    let args = c.args in
    let loop = c.loop-k in
    let loop-test = c.loop-k-test in
    let wide = c.wide-a in
    let part-end = c.part_end-e in
    found-row c.requires.noted (plain_text args.u.now) loop.k loop-test.true
    (row_same args.o.now (plain_text args.u.now) args.places.now loop.k wide.result _ wide.ensures part-end.ensures _
    c.same_text.ensures ∙ c.if-same_text.true)

pub next_print-k-requires-in-loop-k : goal.next_print-k-requires-in-loop-k
next_print-k-requires-in-loop-k c = record { from_le_to = omega (arith, c.loop-k-test.true); to_in_bounds = omega arith }

pub loop-k-smaller : goal.loop-k-smaller
loop-k-smaller c = omega (arith, c.loop-k-test.true, c.next_print-k-in-loop-k.ensures.0, c.next_print-k-in-loop-k.ensures.1)

pub loop-k-preserved : goal.loop-k-preserved
loop-k-preserved c =
    let args = c.args in
    let print-text = c.print_text-p in
    let loop = c.loop-k in
    let wide = c.wide-a in
    let part-end = c.part_end-e in (
      c.next_print-k-in-loop-k.ensures.1,
      clear-to c.requires.noted (plain_text args.u.now) print-text.result _ _ print-text.ensures c.next_print-k-in-loop-k.ensures.1
          c.next_print-k-in-loop-k.ensures.2
          (clear-more c.requires.noted (plain_text args.u.now) loop.k loop.invariant.1
          (row_same args.o.now (plain_text args.u.now) args.places.now loop.k wide.result _ wide.ensures
          part-end.ensures _ c.same_text.ensures ∙ c.if-same_text.false)),
    )

pub returns : goal.returns
returns c = found_none c.requires.noted (plain_text c.args.u.now) c.loop-k.k (omega (arith, c.loop-k-test.false)) c.loop-k.invariant.1
