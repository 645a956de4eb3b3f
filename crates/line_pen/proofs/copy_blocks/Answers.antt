use Prim.Native.Nat.{◌+◌, ◌-◌, ◌≤◌}
use native.Mathlib.Omega.{arith}
use native.Mathlib.Nat.{le_refl}
use mathlib.Core.Path.{◌≡◌, ap, ◌∙◌}
use Rattle.output.proofs.Laws.{length-put}
use lib.ListN.{length, length-take, length-drop}
use Rattle.line_pen.proofs.Copying.{fills-length, fills-none, block_more, block_last}
use Rattle.line_pen.proofs.copy_blocks.Goals as goal

pub overflow_sub-last : goal.overflow_sub-last
overflow_sub-last c = c.requires.0

pub loop-i-init : goal.loop-i-init
loop-i-init c = (omega arith, fills-none _ c.args.s.now)

pub slice_bounds-copy_block-count : goal.slice_bounds-copy_block-count
slice_bounds-copy_block-count c = omega (arith, c.loop-i.invariant.0, c.requires.1, fills-length c.loop-i.invariant.1)

pub slice_bounds-copy_block-start : goal.slice_bounds-copy_block-start
slice_bounds-copy_block-start c = omega (arith, c.loop-i.invariant.0, c.requires.1, fills-length c.loop-i.invariant.1)

pub slice_bounds-copy_block-end : goal.slice_bounds-copy_block-end
slice_bounds-copy_block-end c = le_refl _

pub slice_bounds-copy_block-count-in-loop-i : goal.slice_bounds-copy_block-count-in-loop-i
slice_bounds-copy_block-count-in-loop-i c = c.loop-i.invariant.0

pub slice_bounds-copy_block-start-in-loop-i : goal.slice_bounds-copy_block-start-in-loop-i
slice_bounds-copy_block-start-in-loop-i c = c.loop-i.invariant.0

pub slice_bounds-copy_block-end-in-loop-i : goal.slice_bounds-copy_block-end-in-loop-i
slice_bounds-copy_block-end-in-loop-i c = le_refl _

pub copy_block-requires : goal.copy_block-requires
copy_block-requires c =
    let t = c.loop-i-test.true in
    let room = fills-length c.loop-i.invariant.1 in
    (simp (length-take, length-drop) (omega (arith, t, room, c.requires.1)), simp (length-take, length-drop) (omega (arith, t)))

pub overflow_add-i : goal.overflow_add-i
overflow_add-i c = record { fits = omega (arith, c.loop-i-test.true, c.well_formed) }

pub loop-i-smaller : goal.loop-i-smaller
loop-i-smaller c = omega (arith, c.loop-i-test.true)

pub loop-i-preserved : goal.loop-i-preserved
loop-i-preserved c =
    let l = c.loop-i in
    let src = c.args.s.now in
    let h : l.i + 16 ≤ length src = omega (arith, c.loop-i-test.true) in
    (h, block_more src l.i h (omega (arith, h, c.requires.1)) l.invariant.1 c.copy_block.ensures)

pub slice_bounds-copy_block-count-2 : goal.slice_bounds-copy_block-count-2
slice_bounds-copy_block-count-2 c = omega (arith, c.requires.0, c.requires.1, fills-length c.loop-i.invariant.1)

pub slice_bounds-copy_block-start-2 : goal.slice_bounds-copy_block-start-2
slice_bounds-copy_block-start-2 c = omega (arith, c.requires.0, c.requires.1, fills-length c.loop-i.invariant.1)

pub slice_bounds-copy_block-end-2 : goal.slice_bounds-copy_block-end-2
slice_bounds-copy_block-end-2 c = le_refl _

pub slice_bounds-copy_block-count-3 : goal.slice_bounds-copy_block-count-3
slice_bounds-copy_block-count-3 c = omega (arith, c.requires.0)

pub slice_bounds-copy_block-start-3 : goal.slice_bounds-copy_block-start-3
slice_bounds-copy_block-start-3 c = omega (arith, c.requires.0)

pub slice_bounds-copy_block-end-3 : goal.slice_bounds-copy_block-end-3
slice_bounds-copy_block-end-3 c = le_refl _

pub copy_block-requires-2 : goal.copy_block-requires-2
copy_block-requires-2 c =
    let p = c.requires in
    let room = fills-length c.loop-i.invariant.1 in
    (simp (length-take, length-drop) (omega (arith, p.0, p.1, room)), simp (length-take, length-drop) (omega (arith, p.0)))

pub returns : goal.returns
returns c =
    let l = c.loop-i in
    let p = c.requires in
    let src = c.args.s.now in
    let e : length src - 16 + 16 ≡ length src = omega (arith, p.0) in
    block_last src l.i (length src - 16) c.loop-i-test.false l.invariant.0 p.1 l.invariant.1 e c.copy_block-2.ensures

pub shape_of-out : goal.shape_of-out
shape_of-out c = ap length (returns c) ∙ length-put _ _
