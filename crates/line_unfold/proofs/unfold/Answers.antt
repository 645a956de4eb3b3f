use Prim.Native.Nat.{◌+◌}
use mathlib.Core.Path.{sym, ap, ◌∙◌}
use native.Mathlib.Omega.{arith}
use mathlib.Core.Bool.{◌&&◌}
use lib.Dec.{ltb}
use Rattle.output.proofs.Rests.{rest-same}
use Rattle.line_unfold.proofs.Unfolding.{bytes-first, marks-first, blank-fold, fold-bytes, fold-marks, begin-bytes, begin-marks, too_many, part-short, laid}
use Rattle.line_unfold.proofs.unfold.Goals as goal

pub loop-i-init : goal.loop-i-init
loop-i-init c = (omega arith, omega arith, omega arith, bytes-first _ _, marks-first _ _)

pub slice_bounds-folds-count : goal.slice_bounds-folds-count
slice_bounds-folds-count c = omega (arith, c.next_line-line.ensures.from, c.next_line-line.ensures.ordered, c.next_line-line.ensures.onward, c.next_line-line.ensures.within)

pub slice_bounds-folds-start : goal.slice_bounds-folds-start
slice_bounds-folds-start c = omega (arith, c.next_line-line.ensures.from, c.next_line-line.ensures.ordered, c.next_line-line.ensures.onward, c.next_line-line.ensures.within)

pub slice_bounds-folds-end : goal.slice_bounds-folds-end
slice_bounds-folds-end c = omega (arith, c.next_line-line.ensures.from, c.next_line-line.ensures.ordered, c.next_line-line.ensures.onward, c.next_line-line.ensures.within)

pub slice_bounds-append-count : goal.slice_bounds-append-count
slice_bounds-append-count c =
    let args = c.args in
    let loop = c.loop-i in
    let next-line = c.next_line-line in
    omega (
      arith,
      next-line.ensures.from,
      next-line.ensures.ordered,
      next-line.ensures.onward,
      next-line.ensures.within,
      blank-fold args.s.now loop.i _ next-line.ensures loop.k (sym (ap (λ b. ltb 0 loop.k && b) c.folds-fold.ensures) ∙ c.if-k-fold.true),
    )

pub slice_bounds-append-start : goal.slice_bounds-append-start
slice_bounds-append-start c =
    let args = c.args in
    let loop = c.loop-i in
    let next-line = c.next_line-line in
    omega (
      arith,
      next-line.ensures.from,
      next-line.ensures.ordered,
      next-line.ensures.onward,
      next-line.ensures.within,
      blank-fold args.s.now loop.i _ next-line.ensures loop.k (sym (ap (λ b. ltb 0 loop.k && b) c.folds-fold.ensures) ∙ c.if-k-fold.true),
    )

pub slice_bounds-append-end : goal.slice_bounds-append-end
slice_bounds-append-end c =
    let args = c.args in
    let loop = c.loop-i in
    let next-line = c.next_line-line in
    omega (
      arith,
      next-line.ensures.from,
      next-line.ensures.ordered,
      next-line.ensures.onward,
      next-line.ensures.within,
      blank-fold args.s.now loop.i _ next-line.ensures loop.k (sym (ap (λ b. ltb 0 loop.k && b) c.folds-fold.ensures) ∙ c.if-k-fold.true),
    )

pub append-n-requires : goal.append-n-requires
append-n-requires c =
    let args = c.args in
    let pre = c.requires in
    let loop = c.loop-i in
    let next-line = c.next_line-line in
    let folds = c.folds-fold in
    omega (
      arith,
      next-line.ensures.from,
      next-line.ensures.ordered,
      next-line.ensures.onward,
      next-line.ensures.within,
      blank-fold args.s.now loop.i _ next-line.ensures loop.k (sym (ap (λ b. ltb 0 loop.k && b) folds.ensures) ∙ c.if-k-fold.true),
      part-short args.s.now (loop.i + 1) next-line.result.end,
      loop.invariant.1,
      pre.0,
      rest-same loop.invariant.3,
    )

pub loop-i-smaller-then-k-fold : goal.loop-i-smaller-then-k-fold
loop-i-smaller-then-k-fold c =
    let next-line = c.next_line-line in
    omega (arith, next-line.ensures.from, next-line.ensures.ordered, next-line.ensures.onward, next-line.ensures.within)

pub loop-i-preserved-then-k-fold : goal.loop-i-preserved-then-k-fold
loop-i-preserved-then-k-fold c =
    let args = c.args in
    let loop = c.loop-i in
    let next-line = c.next_line-line in
    let folds = c.folds-fold in
    let if1 = c.if-k-fold in
    let append = c.append-n in (
      next-line.ensures.within,
      omega (arith, next-line.ensures.from, next-line.ensures.ordered, next-line.ensures.onward, next-line.ensures.within, blank-fold args.s.now loop.i _ next-line.ensures loop.k (sym (ap (λ b. ltb 0 loop.k && b) folds.ensures) ∙ if1.true), append.ensures.is, part-short args.s.now (loop.i + 1) next-line.result.end, loop.invariant.1),
      loop.invariant.2,
      fold-bytes args.s.now loop.i _ next-line.ensures loop.k loop.n _ (sym (ap (λ b. ltb 0 loop.k && b) folds.ensures) ∙ if1.true) append.ensures loop.invariant.3,
      fold-marks args.s.now loop.i _ next-line.ensures loop.k loop.n _ (sym (ap (λ b. ltb 0 loop.k && b) folds.ensures) ∙ if1.true) append.ensures loop.invariant.4,
    )

pub shape_of-out-then-k-most : goal.shape_of-out-then-k-most
shape_of-out-then-k-most c = rest-same c.loop-i.invariant.3

pub shape_of-table-then-k-most : goal.shape_of-table-then-k-most
shape_of-table-then-k-most c = rest-same c.loop-i.invariant.4

pub returns-then-k-most : goal.returns-then-k-most
returns-then-k-most c =
    let args = c.args in
    let loop = c.loop-i in
    let next-line = c.next_line-line in
    omega (
      arith,
      c.if-k-most.true,
      too_many args.s.now loop.i _ next-line.ensures loop.k loop.n 0 _ (sym (ap (λ b. ltb 0 loop.k && b) c.folds-fold.ensures) ∙ c.if-k-fold.false) loop.invariant.4,
    )

pub offset_bounds-table-k : goal.offset_bounds-table-k
offset_bounds-table-k c = omega (arith, c.if-k-most.false)

pub bounds-table-k : goal.bounds-table-k
bounds-table-k c = omega (arith, c.if-k-most.false, c.requires.1, rest-same c.loop-i.invariant.4)

pub overflow_add-k : goal.overflow_add-k
overflow_add-k c = omega (arith, c.if-k-most.false)

pub slice_bounds-append-count-in-loop-i : goal.slice_bounds-append-count-in-loop-i
slice_bounds-append-count-in-loop-i c =
    let next-line = c.next_line-line in
    omega (arith, next-line.ensures.from, next-line.ensures.ordered, next-line.ensures.onward, next-line.ensures.within)

pub slice_bounds-append-start-in-loop-i : goal.slice_bounds-append-start-in-loop-i
slice_bounds-append-start-in-loop-i c =
    let next-line = c.next_line-line in
    omega (arith, next-line.ensures.from, next-line.ensures.ordered, next-line.ensures.onward, next-line.ensures.within)

pub slice_bounds-append-end-in-loop-i : goal.slice_bounds-append-end-in-loop-i
slice_bounds-append-end-in-loop-i c =
    let next-line = c.next_line-line in
    omega (arith, next-line.ensures.from, next-line.ensures.ordered, next-line.ensures.onward, next-line.ensures.within)

pub append-n-requires-in-loop-i : goal.append-n-requires-in-loop-i
append-n-requires-in-loop-i c =
    let pre = c.requires in
    let args = c.args in
    let loop = c.loop-i in
    let next-line = c.next_line-line in
    omega (
      arith,
      next-line.ensures.from,
      next-line.ensures.ordered,
      next-line.ensures.onward,
      next-line.ensures.within,
      part-short args.s.now loop.i next-line.result.end,
      loop.invariant.1,
      pre.0,
      rest-same loop.invariant.3,
    )

pub loop-i-smaller : goal.loop-i-smaller
loop-i-smaller c =
    let next-line = c.next_line-line in
    omega (arith, next-line.ensures.from, next-line.ensures.ordered, next-line.ensures.onward, next-line.ensures.within)

pub loop-i-preserved : goal.loop-i-preserved
loop-i-preserved c =
    let args = c.args in
    let pre = c.requires in
    let loop = c.loop-i in
    let next-line = c.next_line-line in
    let folds = c.folds-fold in
    let if1 = c.if-k-fold in
    let if2 = c.if-k-most in
    let append2 = c.append-n-in-loop-i in (
      next-line.ensures.within,
      omega (arith, next-line.ensures.from, next-line.ensures.ordered, next-line.ensures.onward, next-line.ensures.within, append2.ensures.is, part-short args.s.now loop.i next-line.result.end, loop.invariant.1),
      omega (arith, if2.false),
      begin-bytes args.s.now loop.i _ next-line.ensures loop.k loop.n _ (sym (ap (λ b. ltb 0 loop.k && b) folds.ensures) ∙ if1.false) append2.ensures loop.invariant.3,
      begin-marks args.s.now loop.i _ next-line.ensures loop.k loop.n _ (sym (ap (λ b. ltb 0 loop.k && b) folds.ensures) ∙ if1.false) append2.ensures (omega (arith, if2.false, pre.1, rest-same loop.invariant.4)) loop.invariant.4,
    )

pub offset_bounds-table-k-2 : goal.offset_bounds-table-k-2
offset_bounds-table-k-2 c = omega (arith, c.loop-i.invariant.2)

pub bounds-table-k-2 : goal.bounds-table-k-2
bounds-table-k-2 c = omega (arith, c.loop-i.invariant.2, c.requires.1, rest-same c.loop-i.invariant.4)

pub shape_of-out : goal.shape_of-out
shape_of-out c = rest-same c.loop-i.invariant.3

pub returns : goal.returns
returns c =
    let args = c.args in
    let pre = c.requires in
    let loop = c.loop-i in
    (laid args.s.now loop.i loop.k loop.n c.loop-i-test.false (omega (arith, loop.invariant.2, pre.2)) (omega (arith, loop.invariant.2, pre.1, rest-same loop.invariant.4)) loop.invariant.3 loop.invariant.4, loop.invariant.2)
