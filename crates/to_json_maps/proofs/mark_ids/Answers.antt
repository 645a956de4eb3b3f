use borrow.Author.Rules.{rules}
use mathlib.Core.Path.{refl, ◌∙◌}
use native.Mathlib.Omega.{arith}
use Rattle.to_json_maps.proofs.Marking.{marking-start, marking-other, line-entering, marking-line, marking-end}
use Rattle.to_json_maps.proofs.mark_ids.Goals as goal

pub loop-k-init : goal.loop-k-init
loop-k-init c =
    let args = c.args in
    let pre = c.requires in
    (omega arith, refl, refl, λ cs h. marking-start args.prefix.now args.i cs args.row.now pre.0)

pub bounds-lines-k : goal.bounds-lines-k
bounds-lines-k c = omega (arith, c.requires.2.1.wide, c.loop-k-test.true)

pub loop-k-preserved-then-not-is_of : goal.loop-k-preserved-then-not-is_of
loop-k-preserved-then-not-is_of c =
    let args = c.args in
    let loop = c.loop-k in
    let loop-test = c.loop-k-test in
    let is-of = c.is_of in (
      omega arith,
      loop.invariant.1,
      loop.invariant.2,
      λ cs h. marking-other h loop.k loop-test.true args.i is-of.result is-of.ensures args.prefix.now loop.any loop.row c.if-not-is_of.true (loop.invariant.3 cs h),
    )

pub mark_line-on-requires : goal.mark_line-on-requires
mark_line-on-requires c =
    let args = c.args in
    let pre = c.requires in
    let loop = c.loop-k in
    let loop-test = c.loop-k-test in
    let is-of = c.is_of in (
      omega (arith, loop.invariant.1, pre.0.wide),
      omega (arith, loop.invariant.2, pre.1),
      line-entering pre.2.1 loop.k loop-test.true args.i is-of.result is-of.ensures c.if-not-is_of.false pre.3 c.line_at-s.ensures,
    )

pub loop-k-preserved : goal.loop-k-preserved
loop-k-preserved c =
    let args = c.args in
    let pre = c.requires in
    let loop = c.loop-k in
    let loop-test = c.loop-k-test in
    let is-of = c.is_of in
    let line_at_lem = c.line_at-s in (
      omega arith,
      c.mark_line-on.ensures.same ∙ loop.invariant.1,
      search rules,
      λ cs h. marking-line h loop.k loop-test.true args.i is-of.result is-of.ensures c.if-not-is_of.false pre.3 args.prefix.now loop.any c.mark_line-on.result loop.row c.mark_line-on.new.row line_at_lem.ensures c.mark_line-on.ensures (loop.invariant.3 cs h),
    )

pub shape_of-row : goal.shape_of-row
shape_of-row c = c.loop-k.invariant.1

pub shape_of-t : goal.shape_of-t
shape_of-t c = c.loop-k.invariant.2

pub returns : goal.returns
returns c =
    let args = c.args in
    let loop = c.loop-k in
    λ cs h. marking-end h args.prefix.now args.i loop.k loop.any loop.row c.loop-k-test.false (loop.invariant.3 cs h)
