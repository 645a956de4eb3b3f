use mathlib.Core.Path.{sym, ◌∙◌}
use native.Mathlib.Omega.{arith}
use Rattle.std.specs.Prelude.{Some, None}
use Rattle.line_frame.proofs.Frames.{ends-out, ends-here, ends-early, begins-again, ends_on}
use Rattle.line_frame.proofs.end_from.Goals as goal

pub loop-i-init : goal.loop-i-init
loop-i-init c = λ f p. p

pub slice_bounds-is_end-count : goal.slice_bounds-is_end-count
slice_bounds-is_end-count c = omega (arith, c.next_line-line.ensures.from, c.next_line-line.ensures.ordered, c.next_line-line.ensures.within)

pub slice_bounds-is_end-start : goal.slice_bounds-is_end-start
slice_bounds-is_end-start c = omega (arith, c.next_line-line.ensures.from, c.next_line-line.ensures.ordered, c.next_line-line.ensures.within)

pub slice_bounds-is_end-end : goal.slice_bounds-is_end-end
slice_bounds-is_end-end c = omega (arith, c.next_line-line.ensures.from, c.next_line-line.ensures.ordered, c.next_line-line.ensures.within)

pub returns-then-next-s : goal.returns-then-next-s
returns-then-next-s c =
    let args = c.args in
    let loop = c.loop-i in
    let next-line = c.next_line-line in
    loop.invariant None
    (ends-early args.s.now loop.i _ next-line.ensures (sym c.is_end.ensures ∙ c.if-is_end.true)
    c.if-next-s.true)

pub returns-then-is_end : goal.returns-then-is_end
returns-then-is_end c =
    let args = c.args in
    let loop = c.loop-i in
    let next-line = c.next_line-line in
    loop.invariant (Some loop.i)
    (ends-here args.s.now loop.i _ next-line.ensures (sym c.is_end.ensures ∙ c.if-is_end.true)
    c.if-next-s.false)

pub slice_bounds-is_begin-count : goal.slice_bounds-is_begin-count
slice_bounds-is_begin-count c = omega (arith, c.next_line-line.ensures.from, c.next_line-line.ensures.ordered, c.next_line-line.ensures.within)

pub slice_bounds-is_begin-start : goal.slice_bounds-is_begin-start
slice_bounds-is_begin-start c = omega (arith, c.next_line-line.ensures.from, c.next_line-line.ensures.ordered, c.next_line-line.ensures.within)

pub slice_bounds-is_begin-end : goal.slice_bounds-is_begin-end
slice_bounds-is_begin-end c = omega (arith, c.next_line-line.ensures.from, c.next_line-line.ensures.ordered, c.next_line-line.ensures.within)

pub returns-then-is_begin : goal.returns-then-is_begin
returns-then-is_begin c =
    let args = c.args in
    let loop = c.loop-i in
    let next-line = c.next_line-line in
    let is-end = c.is_end in
    let if1 = c.if-is_end in
    loop.invariant None
    (begins-again args.s.now loop.i _ next-line.ensures (sym is-end.ensures ∙ if1.false)
    (sym c.is_begin.ensures ∙ c.if-is_begin.true))

pub loop-i-smaller : goal.loop-i-smaller
loop-i-smaller c = omega (arith, c.next_line-line.ensures.onward, c.next_line-line.ensures.within)

pub loop-i-preserved : goal.loop-i-preserved
loop-i-preserved c =
    let args = c.args in
    let loop = c.loop-i in
    let next-line = c.next_line-line in
    let is-end = c.is_end in
    let if1 = c.if-is_end in
    λ f p. loop.invariant f
    (ends_on args.s.now loop.i _ next-line.ensures f (sym is-end.ensures ∙ if1.false)
    (sym c.is_begin.ensures ∙ c.if-is_begin.false) p)

pub returns : goal.returns
returns c = c.loop-i.invariant None (ends-out c.args.s.now c.loop-i.i c.loop-i-test.false)
